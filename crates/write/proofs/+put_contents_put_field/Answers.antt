use borrow.Author.Rules.{rules}
use native.Mathlib.Omega.{arith}
use mathlib.Core.Path.{refl}
use Rattle.write.proofs.PutField.{
  put_low,
  put_deep,
  put_short,
  put_inside,
  put_after,
  put_id,
  put_front_room,
  put_object,
  put_array,
  put_object_made,
  put_array_made,
  put_leaf_ready,
  put_leaf_made,
}
use Rattle.write.proofs.PutStart.{put_can, put_mine, put_start}
use Rattle.write.proofs.PutLoop.{put_stop, put_close_room, put_close, put_item, put_step, put_less}
use Rattle.write.proofs.+put_contents_put_field.Goals as goal

pub put_contents-put_head-h-requires : goal.put_contents-put_head-h-requires
put_contents-put_head-h-requires t c = put_can _ _ _ _ _ _ _ _ c.requires

pub put_contents-overflow_add-j : goal.put_contents-overflow_add-j
put_contents-overflow_add-j t c = omega (arith, put_mine _ _ _ _ _ _ _ _ c.requires)

pub put_contents-loop-p-init : goal.put_contents-loop-p-init
put_contents-loop-p-init t c = (refl, refl, λ O W x. x)

pub put_contents-put_count-requires : goal.put_contents-put_count-requires
put_contents-put_count-requires t c =
    put_close_room _ _ _ _ _ _ _ _ _ _ _ _ _ _ _ _ (c.loop-p.invariant.2 _ _
    (put_start _ _ _ _ _ _ _ _ c.requires _ _ _ c.put_head-h.ensures)) (search rules) (search rules)

pub put_contents-returns-then-list-p-eq0 : goal.put_contents-returns-then-list-p-eq0
put_contents-returns-then-list-p-eq0 t c =
    put_close _ _ _ _ _ _ _ _ _ _ _ _ _ _ _ _ (c.loop-p.invariant.2 _ _
    (put_start _ _ _ _ _ _ _ _ c.requires _ _ _ c.put_head-h.ensures)) (search rules) (search rules) _ c.put_count.ensures _ refl refl refl

pub put_contents-put_field-r-requires : goal.put_contents-put_field-r-requires
put_contents-put_field-r-requires t c = (
  search rules,
  put_item _ _ _ _ _ _ _ _ _ _ _ _ _ _ _ _ (c.loop-p.invariant.2 _ _
      (put_start _ _ _ _ _ _ _ _ c.requires _ _ _ c.put_head-h.ensures))
      (search rules) (search rules),
)

pub put_contents-overflow_add-count : goal.put_contents-overflow_add-count
put_contents-overflow_add-count t c =
    let l = (c.loop-p.invariant.2 _ _
    (put_start _ _ _ _ _ _ _ _ c.requires _ _ _ c.put_head-h.ensures)) in omega (arith, l.less, l.high, l.short)

pub put_contents-loop-p-smaller : goal.put_contents-loop-p-smaller
put_contents-loop-p-smaller t c =
    put_less _ _ _ _ _ _ _ _ _ _ _ _ _ _ _ _ (c.loop-p.invariant.2 _ _
    (put_start _ _ _ _ _ _ _ _ c.requires _ _ _ c.put_head-h.ensures)) (search rules) (search rules) _ _ _
    c.put_field-r.ensures

pub put_contents-loop-p-preserved : goal.put_contents-loop-p-preserved
put_contents-loop-p-preserved t c = (
  search rules,
  search rules,
  λ O W x. put_step _ _ _ _ _ _ _ _ _ _ _ _ _ _ _ _ (c.loop-p.invariant.2 O W x) (search rules) (search rules) _ _ _ c.put_field-r.ensures,
)

pub put_contents-returns : goal.put_contents-returns
put_contents-returns t c =
    put_stop _ _ _ _ _ _ _ _ _ _ _ _ _ _ _ _ (c.loop-p.invariant.2 _ _ (put_start _ _ _ _ _ _ _ _
    c.requires _ _ _
    c.put_head-h.ensures)) _ _ _ (search rules)

pub put_field-bounds-list-at : goal.put_field-bounds-list-at
put_field-bounds-list-at t c = omega (arith, put_low _ _ _ _ _ _ _ _ _ c.requires)

pub put_field-start_of-start-requires : goal.put_field-start_of-start-requires
put_field-start_of-start-requires t c = (put_low _ _ _ _ _ _ _ _ _ c.requires, put_short _ _ _ _ _ _ _ _ _ c.requires)

pub put_field-overflow_add-at : goal.put_field-overflow_add-at
put_field-overflow_add-at t c = omega (arith, put_low _ _ _ _ _ _ _ _ _ c.requires)

pub put_field-put_front-e-requires : goal.put_field-put_front-e-requires
put_field-put_front-e-requires t c = (
  put_after _ _ _ _ _ _ _ _ _ c.requires _
      c.start_of-start.ensures _ c.number_at.ensures _ c.final_id-id.ensures,
  put_inside _ _ _
      _ _ _ _ _ _ c.requires _
      c.start_of-start.ensures,
  put_front_room _ _ _ _ _ _ _ _ _ c.requires _ c.start_of-start.ensures _ c.number_at.ensures _
      c.final_id-id.ensures,
  put_id _ _ _ _ _ _ _ _ _ c.requires _
      c.start_of-start.ensures _ c.number_at.ensures _ c.final_id-id.ensures,
)

pub put_field-overflow_sub-left : goal.put_field-overflow_sub-left
put_field-overflow_sub-left t c = put_deep _ _ _ _ _ _ _ _ _ c.requires

pub put_field-put_contents-requires : goal.put_field-put_contents-requires
put_field-put_contents-requires t c = (
  omega (
    arith,
    put_deep _ _ _ _ _ _ _ _ _ c.requires,
  ),
  put_object _ _ _ _ _ _ _ _ _ c.requires _ c.start_of-start.ensures _ c.number_at.ensures _
      c.final_id-id.ensures _ _ c.put_front-e.ensures.0 c.put_front-e.ensures.1 c.if-b-eq2.true _ refl,
)

pub put_field-returns-then-b-eq2 : goal.put_field-returns-then-b-eq2
put_field-returns-then-b-eq2 t c =
    put_object_made _ _ _ _ _ _ _ _ _ c.requires _ c.start_of-start.ensures _ c.number_at.ensures _ c.final_id-id.ensures _ _ c.put_front-e.ensures.0
    c.put_front-e.ensures.1
    c.if-b-eq2.true _ _ _ c.put_contents.ensures

pub put_field-overflow_sub-left-then-b-eq4 : goal.put_field-overflow_sub-left-then-b-eq4
put_field-overflow_sub-left-then-b-eq4 t c = put_deep _ _ _ _ _ _ _ _ _ c.requires

pub put_field-put_contents-requires-then-b-eq4 : goal.put_field-put_contents-requires-then-b-eq4
put_field-put_contents-requires-then-b-eq4 t c = (
  omega (
    arith,
    put_deep _ _ _ _ _ _ _ _ _ c.requires,
  ),
  put_array _ _ _ _ _ _ _ _ _ c.requires _ c.start_of-start.ensures _ c.number_at.ensures _
      c.final_id-id.ensures _ _
      c.put_front-e.ensures.0 c.put_front-e.ensures.1 c.if-b-eq4.true _ refl,
)

pub put_field-returns-then-b-eq4 : goal.put_field-returns-then-b-eq4
put_field-returns-then-b-eq4 t c =
    put_array_made _ _ _ _ _ _ _ _ _ c.requires _ c.start_of-start.ensures _ c.number_at.ensures _ c.final_id-id.ensures _ _ c.put_front-e.ensures.0 c.put_front-e.ensures.1
    c.if-b-eq4.true _ _ _ c.put_contents-then-b-eq4.ensures

pub put_field-put_leaf-requires : goal.put_field-put_leaf-requires
put_field-put_leaf-requires t c =
    put_leaf_ready _ _ _ _ _ _ _ _ _ c.requires _ c.start_of-start.ensures _
    c.number_at.ensures _
    c.final_id-id.ensures _ _ c.put_front-e.ensures.0 c.put_front-e.ensures.1 c.if-b-eq2.false c.if-b-eq4.false

pub put_field-returns : goal.put_field-returns
put_field-returns t c =
    put_leaf_made _ _ _ _ _ _ _ _ _ c.requires _ c.start_of-start.ensures _ c.number_at.ensures _
    c.final_id-id.ensures _ _
    c.put_front-e.ensures.0
    c.put_front-e.ensures.1 c.if-b-eq2.false
    c.if-b-eq4.false _ _ c.put_leaf.ensures
