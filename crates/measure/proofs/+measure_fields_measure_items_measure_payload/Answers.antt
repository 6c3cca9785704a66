use Rattle.std.proofs.Common.{rules, arith, ◌∙◌, ◌≡◌, Err}
use mathlib.Core.Path.{refl}
use Rattle.measure.proofs.SmallLaws.{plain_by}
use Rattle.measure.proofs.FieldCases.{payload_object, payload_array, leaf_sum, leaf_is}
use Rattle.measure.proofs.LoopReturns.{standing_starts, stands_more, more_fits, more_less, met, met_deep, met_payload, met_after}
use Rattle.measure.proofs.LoopReturns.{met_leaf, leaf_fits, leaf_bad, leaf_good}
use Rattle.measure.proofs.LoopReturns.{items_end, items_close, items_bad, items_cut}
use Rattle.measure.proofs.LoopReturns.{fields_end, fields_closed, fields_close, fields_barred, fields_bad, fields_cut}
use Rattle.measure.proofs.LoopReturns.{names_next, noted, names_over, same_table}
use Rattle.measure.proofs.NameLaws.{names_start}
use Rattle.measure.proofs.+measure_fields_measure_items_measure_payload.Goals as goal

pub measure_items-loop-p-init : goal.measure_items-loop-p-init
measure_items-loop-p-init t c = search (standing_starts, rules)

pub measure_items-returns-then-list-p-eq0 : goal.measure_items-returns-then-list-p-eq0
measure_items-returns-then-list-p-eq0 t c = items_close c.loop-p.invariant.2 c.loop-p-test.true c.if-list-p-eq0.true c.closed.ensures

pub measure_items-returns-in-Err : goal.measure_items-returns-in-Err
measure_items-returns-in-Err t c =
    rw c.at.ensures (items_bad c.loop-p.invariant.2 c.loop-p-test.true c.if-list-p-eq0.false c.front_at.ensures c.in-Err.is)

pub measure_items-overflow_sub-left : goal.measure_items-overflow_sub-left
measure_items-overflow_sub-left t c = met_deep (met c.loop-p.invariant.2 c.loop-p-test.true c.if-list-p-eq0.false c.front_at.ensures c.in-Ok.is)

pub measure_items-measure_payload-requires : goal.measure_items-measure_payload-requires
measure_items-measure_payload-requires t c =
    let g = met c.loop-p.invariant.2 c.loop-p-test.true c.if-list-p-eq0.false c.front_at.ensures c.in-Ok.is in (omega (arith, met_deep g), met_payload g)

pub measure_items-returns-in-Err-leaf_at : goal.measure_items-returns-in-Err-leaf_at
measure_items-returns-in-Err-leaf_at t c =
    let g = met c.loop-p.invariant.2 c.loop-p-test.true c.if-list-p-eq0.false c.front_at.ensures c.in-Ok.is in
    rw c.at-in-Err-leaf_at.ensures (items_cut g (met_leaf g c.leaf_at.ensures c.is_leaf.ensures c.if-is_leaf.true) (leaf_bad _ _ _ c.in-Err-leaf_at.is))

pub measure_items-overflow_sub-start : goal.measure_items-overflow_sub-start
measure_items-overflow_sub-start t c = met_after (met c.loop-p.invariant.2 c.loop-p-test.true c.if-list-p-eq0.false c.front_at.ensures c.in-Ok.is)

pub measure_items-overflow_add-start : goal.measure_items-overflow_add-start
measure_items-overflow_add-start t c =
    let g = met c.loop-p.invariant.2 c.loop-p-test.true c.if-list-p-eq0.false c.front_at.ensures c.in-Ok.is in
    leaf_fits g c.leaf_at.ensures c.is_leaf.ensures c.if-is_leaf.true c.in-Ok-leaf_at.is

pub measure_items-with-contents-requires : goal.measure_items-with-contents-requires
measure_items-with-contents-requires t c =
    let g = met c.loop-p.invariant.2 c.loop-p-test.true c.if-list-p-eq0.false c.front_at.ensures c.in-Ok.is in
    more_fits g (met_leaf g c.leaf_at.ensures c.is_leaf.ensures c.if-is_leaf.true) (leaf_good _ _ _ c.in-Ok-leaf_at.is)

pub measure_items-loop-p-smaller-then-is_leaf : goal.measure_items-loop-p-smaller-then-is_leaf
measure_items-loop-p-smaller-then-is_leaf t c =
    let g = met c.loop-p.invariant.2 c.loop-p-test.true c.if-list-p-eq0.false c.front_at.ensures c.in-Ok.is in
    more_less g (met_leaf g c.leaf_at.ensures c.is_leaf.ensures c.if-is_leaf.true) (leaf_good _ _ _ c.in-Ok-leaf_at.is)

pub measure_items-loop-p-preserved-then-is_leaf : goal.measure_items-loop-p-preserved-then-is_leaf
measure_items-loop-p-preserved-then-is_leaf t c =
    let g = met c.loop-p.invariant.2 c.loop-p-test.true c.if-list-p-eq0.false c.front_at.ensures c.in-Ok.is in (
      c.loop-p.invariant.0,
      c.loop-p.invariant.1,
      stands_more g (met_leaf g c.leaf_at.ensures c.is_leaf.ensures c.if-is_leaf.true) (leaf_good _ _ _ c.in-Ok-leaf_at.is) c.with-contents.ensures,
    )

pub measure_items-returns-in_err-field : goal.measure_items-returns-in_err-field
measure_items-returns-in_err-field t c =
    let e : c.from_residual.result ≡ Err c.in_err-field.field-0.0 = search rules in
    let g = met c.loop-p.invariant.2 c.loop-p-test.true c.if-list-p-eq0.false c.front_at.ensures c.in-Ok.is in
    rw e (items_cut g c.measure_payload.ensures c.in_err-field.was)

pub measure_items-with-contents-requires-else-is_leaf : goal.measure_items-with-contents-requires-else-is_leaf
measure_items-with-contents-requires-else-is_leaf t c =
    let g = met c.loop-p.invariant.2 c.loop-p-test.true c.if-list-p-eq0.false c.front_at.ensures c.in-Ok.is in
    more_fits g c.measure_payload.ensures c.in_ok-field.was

pub measure_items-loop-p-smaller : goal.measure_items-loop-p-smaller
measure_items-loop-p-smaller t c =
    let g = met c.loop-p.invariant.2 c.loop-p-test.true c.if-list-p-eq0.false c.front_at.ensures c.in-Ok.is in
    more_less g c.measure_payload.ensures c.in_ok-field.was

pub measure_items-loop-p-preserved : goal.measure_items-loop-p-preserved
measure_items-loop-p-preserved t c =
    let g = met c.loop-p.invariant.2 c.loop-p-test.true c.if-list-p-eq0.false c.front_at.ensures c.in-Ok.is in (
      c.measure_payload.auto.table ∙ c.loop-p.invariant.0,
      c.measure_payload.auto.work ∙ c.loop-p.invariant.1,
      stands_more g c.measure_payload.ensures c.in_ok-field.was c.with-contents-else-is_leaf.ensures,
    )

pub measure_items-returns : goal.measure_items-returns
measure_items-returns t c = rw c.at-2.ensures (items_end c.loop-p.invariant.2 c.loop-p-test.false)

pub measure_payload-measured_leaf-requires : goal.measure_payload-measured_leaf-requires
measure_payload-measured_leaf-requires t c =
    leaf_sum 0 _ _ _ _ _ c.requires _ c.leaf_at.ensures (plain_by _ c.in_default.not-Object c.in_default.not-Array) _ refl

pub measure_payload-returns-in_default : goal.measure_payload-returns-in_default
measure_payload-returns-in_default t c =
    leaf_is _ _ _ _ _ _ c.requires _ c.leaf_at.ensures (plain_by _ c.in_default.not-Object c.in_default.not-Array) _ refl _ _ c.measured_leaf.ensures

pub measure_payload-returns-in-Array : goal.measure_payload-returns-in-Array
measure_payload-returns-in-Array t c = payload_array _ _ _ _ _ _ _ _ _ c.in-Array.is c.measure_items.ensures

pub measure_payload-returns-in-Object : goal.measure_payload-returns-in-Object
measure_payload-returns-in-Object t c = payload_object _ _ _ _ _ _ _ _ _ c.in-Object.is c.measure_fields.ensures

pub measure_fields-loop-p-init : goal.measure_fields-loop-p-init
measure_fields-loop-p-init t c = search (standing_starts, names_start, rules)

pub measure_fields-overflow_sub-left : goal.measure_fields-overflow_sub-left
measure_fields-overflow_sub-left t c = met_deep (met c.loop-p.invariant.2 c.loop-p-test.true c.if-list-p-eq0.false c.front_at.ensures c.in-Ok.is)

pub measure_fields-measure_payload-measured-requires : goal.measure_fields-measure_payload-measured-requires
measure_fields-measure_payload-measured-requires t c =
    let g = met c.loop-p.invariant.2 c.loop-p-test.true c.if-list-p-eq0.false c.front_at.ensures c.in-Ok.is in (omega (arith, met_deep g), met_payload g)

pub measure_fields-returns-in-Err-leaf_at : goal.measure_fields-returns-in-Err-leaf_at
measure_fields-returns-in-Err-leaf_at t c =
    let g = met c.loop-p.invariant.2 c.loop-p-test.true c.if-list-p-eq0.false c.front_at.ensures c.in-Ok.is in
    let n = noted g c.loop-p.invariant.3 c.note-notes.ensures in
    let q = met_leaf g c.leaf_at.ensures c.is_leaf.ensures c.if-is_leaf.true in
    fields_cut g n q (leaf_bad _ _ _ c.in-Err-leaf_at.is) (rw c.at-in-Err-leaf_at.ensures at c.ended-in-Err-leaf_at.ensures)

pub measure_fields-overflow_sub-start : goal.measure_fields-overflow_sub-start
measure_fields-overflow_sub-start t c = met_after (met c.loop-p.invariant.2 c.loop-p-test.true c.if-list-p-eq0.false c.front_at.ensures c.in-Ok.is)

pub measure_fields-overflow_add-start : goal.measure_fields-overflow_add-start
measure_fields-overflow_add-start t c =
    let g = met c.loop-p.invariant.2 c.loop-p-test.true c.if-list-p-eq0.false c.front_at.ensures c.in-Ok.is in
    leaf_fits g c.leaf_at.ensures c.is_leaf.ensures c.if-is_leaf.true c.in-Ok-leaf_at.is

pub measure_fields-with-contents-requires : goal.measure_fields-with-contents-requires
measure_fields-with-contents-requires t c =
    let g = met c.loop-p.invariant.2 c.loop-p-test.true c.if-list-p-eq0.false c.front_at.ensures c.in-Ok.is in
    more_fits g (met_leaf g c.leaf_at.ensures c.is_leaf.ensures c.if-is_leaf.true) (leaf_good _ _ _ c.in-Ok-leaf_at.is)

pub measure_fields-loop-p-smaller-then-is_leaf : goal.measure_fields-loop-p-smaller-then-is_leaf
measure_fields-loop-p-smaller-then-is_leaf t c =
    let g = met c.loop-p.invariant.2 c.loop-p-test.true c.if-list-p-eq0.false c.front_at.ensures c.in-Ok.is in
    more_less g (met_leaf g c.leaf_at.ensures c.is_leaf.ensures c.if-is_leaf.true) (leaf_good _ _ _ c.in-Ok-leaf_at.is)

pub measure_fields-loop-p-preserved-then-is_leaf : goal.measure_fields-loop-p-preserved-then-is_leaf
measure_fields-loop-p-preserved-then-is_leaf t c =
    let g = met c.loop-p.invariant.2 c.loop-p-test.true c.if-list-p-eq0.false c.front_at.ensures c.in-Ok.is in
    let n = noted g c.loop-p.invariant.3 c.note-notes.ensures in
    let q = met_leaf g c.leaf_at.ensures c.is_leaf.ensures c.if-is_leaf.true in
    let b = leaf_good _ _ _ c.in-Ok-leaf_at.is in (
      c.note-notes.auto.table ∙ c.loop-p.invariant.0,
      c.loop-p.invariant.1,
      stands_more g q b c.with-contents.ensures,
      names_next g n q b c.with-contents.ensures,
    )

pub measure_fields-returns-in_default : goal.measure_fields-returns-in_default
measure_fields-returns-in_default t c =
    let g = met c.loop-p.invariant.2 c.loop-p-test.true c.if-list-p-eq0.false c.front_at.ensures c.in-Ok.is in
    let n = noted g c.loop-p.invariant.3 c.note-notes.ensures in
    fields_cut g (names_over n c.held-held.ensures _ c.measure_payload-measured.auto.table) c.measure_payload-measured.ensures c.in_default.is
    (rw c.in_default.is at c.ended-in_default.ensures)

pub measure_fields-with-contents-requires-else-is_leaf : goal.measure_fields-with-contents-requires-else-is_leaf
measure_fields-with-contents-requires-else-is_leaf t c =
    let g = met c.loop-p.invariant.2 c.loop-p-test.true c.if-list-p-eq0.false c.front_at.ensures c.in-Ok.is in
    more_fits g c.measure_payload-measured.ensures c.in-Ok-measured.is

pub measure_fields-loop-p-smaller : goal.measure_fields-loop-p-smaller
measure_fields-loop-p-smaller t c =
    let g = met c.loop-p.invariant.2 c.loop-p-test.true c.if-list-p-eq0.false c.front_at.ensures c.in-Ok.is in
    more_less g c.measure_payload-measured.ensures c.in-Ok-measured.is

pub measure_fields-loop-p-preserved : goal.measure_fields-loop-p-preserved
measure_fields-loop-p-preserved t c =
    let g = met c.loop-p.invariant.2 c.loop-p-test.true c.if-list-p-eq0.false c.front_at.ensures c.in-Ok.is in
    let n = noted g c.loop-p.invariant.3 c.note-notes.ensures in
    let o = names_over n c.held-held.ensures _ c.measure_payload-measured.auto.table in (
      same_table n c.held-held.ensures _ c.measure_payload-measured.auto.table ∙ (c.note-notes.auto.table ∙ c.loop-p.invariant.0),
      c.measure_payload-measured.auto.work ∙ c.loop-p.invariant.1,
      stands_more g c.measure_payload-measured.ensures c.in-Ok-measured.is c.with-contents-else-is_leaf.ensures,
      names_next g o c.measure_payload-measured.ensures c.in-Ok-measured.is c.with-contents-else-is_leaf.ensures,
    )

pub measure_fields-returns-then-few : goal.measure_fields-returns-then-few
measure_fields-returns-then-few t c =
    fields_closed c.loop-p.invariant.2 c.loop-p.invariant.3 c.loop-p-test.true c.if-list-p-eq0.true c.closed.ensures c.if-few.true

pub measure_fields-returns-then-list-p-eq0 : goal.measure_fields-returns-then-list-p-eq0
measure_fields-returns-then-list-p-eq0 t c =
    fields_close c.loop-p.invariant.2 c.loop-p.invariant.3 c.loop-p-test.true c.if-list-p-eq0.true c.closed.ensures c.ended.ensures

pub measure_fields-returns-then-few-2 : goal.measure_fields-returns-then-few-2
measure_fields-returns-then-few-2 t c =
    rw c.at.ensures
    (fields_barred c.loop-p.invariant.2 c.loop-p.invariant.3 c.loop-p-test.true c.if-list-p-eq0.false c.front_at.ensures c.in-Err.is c.if-few-2.true)

pub measure_fields-returns-in-Err : goal.measure_fields-returns-in-Err
measure_fields-returns-in-Err t c =
    fields_bad c.loop-p.invariant.2 c.loop-p.invariant.3 c.loop-p-test.true c.if-list-p-eq0.false c.front_at.ensures c.in-Err.is
    (rw c.at.ensures at c.ended-in-Err.ensures)

pub measure_fields-returns : goal.measure_fields-returns
measure_fields-returns t c =
    fields_end c.loop-p.invariant.2 c.loop-p.invariant.3 c.loop-p-test.false (rw c.at-2.ensures at c.ended-2.ensures)
