use borrow.Author.Rules.{rules}
use native.Mathlib.Omega.{arith}
use Rattle.write.proofs.Header.{open_mine, open_number, open_e, open_typed, open_at, open_kept, open_shared}
use Rattle.write.proofs.PutLaws.{flags_fit, shared_under}
use Rattle.write.proofs.put_head.Goals as goal

ruleset laws = (open_mine, open_number, open_e, open_typed, open_at, open_kept, open_shared, flags_fit, shared_under, rules)

pub offset_bounds-work-k : goal.offset_bounds-work-k
offset_bounds-work-k c = search laws

pub bounds-work-k : goal.bounds-work-k
bounds-work-k c = search laws

pub size_in-requires : goal.size_in-requires
size_in-requires c = search laws

pub offset_bounds-work-k-2 : goal.offset_bounds-work-k-2
offset_bounds-work-k-2 c = search laws

pub bounds-work-k-2 : goal.bounds-work-k-2
bounds-work-k-2 c = search laws

pub size_in-requires-2 : goal.size_in-requires-2
size_in-requires-2 c = search laws

pub whole-requires : goal.whole-requires
whole-requires c = search laws

pub put_number-q-requires : goal.put_number-q-requires
put_number-q-requires c = search laws

pub width_in-requires : goal.width_in-requires
width_in-requires c = search laws

pub whole-requires-2 : goal.whole-requires-2
whole-requires-2 c = search laws

pub overflow_add-e : goal.overflow_add-e
overflow_add-e c =
    omega (
      arith,
      open_e _ _ _ _ _ _ c.requires _ _ _ _
          _ _ c.size_in-2.ensures c.whole.ensures.0
          c.put_number-q.ensures.0 c.width_in.ensures c.whole-2.ensures.0
          c.put_number-q.ensures.1,
    )

pub is_uniform_in-requires : goal.is_uniform_in-requires
is_uniform_in-requires c = search laws

pub shared_flags-requires : goal.shared_flags-requires
shared_flags-requires c = search laws

pub shared_in-requires : goal.shared_in-requires
shared_in-requires c = search laws

pub overflow_add-out : goal.overflow_add-out
overflow_add-out c = search laws

pub bounds-out-e : goal.bounds-out-e
bounds-out-e c = search laws

pub overflow_add-result : goal.overflow_add-result
overflow_add-result c =
    omega (
      arith,
      open_at _ _ _ _ _ _ c.requires _ _ _ _ _ _ c.size_in-2.ensures
          c.whole.ensures.0
          c.put_number-q.ensures.0
          c.width_in.ensures c.whole-2.ensures.0
          c.put_number-q.ensures.1 _ c.is_uniform_in.ensures
          (search rules),
    )

pub shape_of-out-then-is_uniform_in : goal.shape_of-out-then-is_uniform_in
shape_of-out-then-is_uniform_in c = search laws

pub shape_of-work-then-is_uniform_in : goal.shape_of-work-then-is_uniform_in
shape_of-work-then-is_uniform_in c = search laws

pub returns-then-is_uniform_in : goal.returns-then-is_uniform_in
returns-then-is_uniform_in c = search laws

pub shape_of-out : goal.shape_of-out
shape_of-out c = search laws

pub shape_of-work : goal.shape_of-work
shape_of-work c = search laws

pub returns : goal.returns
returns c = search laws
