use borrow.Author.Rules.{rules}
use native.Mathlib.Omega.{arith}
use Rattle.write.proofs.LeafPut.{leaf_double, leaf_double_made, plain_low, plain_high, plain_room, plain_made}
use Rattle.write.proofs.put_leaf.Goals as goal

ruleset laws = (leaf_double, leaf_double_made, plain_low, plain_high, plain_room, plain_made, rules)

pub put_double-requires : goal.put_double-requires
put_double-requires c = search laws

pub shape_of-out-then-b-eq11 : goal.shape_of-out-then-b-eq11
shape_of-out-then-b-eq11 c = search laws

pub returns-then-b-eq11 : goal.returns-then-b-eq11
returns-then-b-eq11 c = search laws

pub end_at-end-requires : goal.end_at-end-requires
end_at-end-requires c = search laws

pub copy-requires : goal.copy-requires
copy-requires c = search laws

pub overflow_sub-result : goal.overflow_sub-result
overflow_sub-result c = search laws

pub overflow_add-result : goal.overflow_add-result
overflow_add-result c =
    omega (
      arith,
      plain_room _ _ _ _ _ c.requires
          c.if-b-eq11.false _ c.end_at-end.ensures,
    )

pub shape_of-out : goal.shape_of-out
shape_of-out c = search laws

pub returns : goal.returns
returns c = search laws
