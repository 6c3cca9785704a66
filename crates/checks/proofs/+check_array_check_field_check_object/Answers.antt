use Prim.Native.Nat.{◌+◌, ◌-◌}
use native.Mathlib.Omega.{arith}
use mathlib.Core.Path.{◌≡◌, ap, ◌∙◌}
use borrow.Author.Rules.{rules}
use Rattle.std.specs.Prelude.{Ok}
use Rattle.std.proofs.lemmas.Result.{err_from_is_err_and}
use Rattle.checks.proofs.FieldCases.{field_deep, field_stop, field_leaf, field_fields, field_items, fields_in_law, items_in_law}
use Rattle.checks.proofs.LoopLaws.{fields_start, fields_out, fields_fault, fields_step, fields_nameless}
use Rattle.checks.proofs.LoopLaws.{items_start, items_fault, items_step, items_left, items_end}
use Rattle.checks.proofs.SizedItems.{sized_items_law}
use Rattle.checks.proofs.+check_array_check_field_check_object.Goals as goal

pub check_array-returns-then-size-gt0 : goal.check_array-returns-then-size-gt0
check_array-returns-then-size-gt0 t c =
    let a = c.args in
    sized_items_law a.form a.count a.modes a.left a.faults a.part.now _ c.item_size-size.ensures (omega arith) _
    c.check_sizes.ensures

pub check_array-overflow_add-at : goal.check_array-overflow_add-at
check_array-overflow_add-at t c =
    let a = c.args in
    let l = c.loop-read in
    omega (
      arith,
      (items_step a.form a.count a.modes a.left a.faults a.part.now l.at _ l.met l.run l.invariant
          (omega arith) _ c.check_field.ensures _ c.in_ok-field.was).inside,
    )

pub check_array-loop-read-preserved : goal.check_array-loop-read-preserved
check_array-loop-read-preserved t c =
    let a = c.args in
    let l = c.loop-read in
    let fewer : a.count - (l.read + 1) ≡ a.count - l.read - 1 = omega arith in
    rw (fewer, c.add-run.ensures) (items_step a.form a.count a.modes a.left a.faults a.part.now l.at _ l.met l.run
    l.invariant (omega arith) _ c.check_field.ensures _ c.in_ok-field.was)

pub check_array-returns-then-at-part : goal.check_array-returns-then-at-part
check_array-returns-then-at-part t c =
    let a = c.args in let l = c.loop-read in
    items_left a.form a.count a.modes a.left a.faults a.part.now l.at _ l.met l.run l.invariant (omega arith)
    (omega arith)

pub check_array-returns : goal.check_array-returns
check_array-returns t c =
    let a = c.args in let l = c.loop-read in
    items_end a.form a.count a.modes a.left a.faults a.part.now l.at _ l.met l.run l.invariant (omega arith)
    (omega arith) _ c.end_array.ensures

pub check_field-slice_bounds-check_object-count : goal.check_field-slice_bounds-check_object-count
check_field-slice_bounds-check_object-count t c =
    let a = c.args in
    omega (
      arith,
      fields_in_law a.form a.modes a.faults a.part.now _ c.meet_of.ensures _ _ _ _ _ _ _
          (c.in_ok-met.was ∙ ap Ok c.in-Fields.is),
    )

pub check_field-slice_bounds-check_object-start : goal.check_field-slice_bounds-check_object-start
check_field-slice_bounds-check_object-start t c =
    let a = c.args in
    omega (
      arith,
      fields_in_law a.form a.modes a.faults a.part.now _ c.meet_of.ensures _ _ _ _ _ _ _
          (c.in_ok-met.was ∙ ap Ok c.in-Fields.is),
    )

pub check_field-slice_bounds-check_object-end : goal.check_field-slice_bounds-check_object-end
check_field-slice_bounds-check_object-end t c =
    let a = c.args in
    omega (
      arith,
      fields_in_law a.form a.modes a.faults a.part.now _ c.meet_of.ensures _ _ _ _ _ _ _
          (c.in_ok-met.was ∙ ap Ok c.in-Fields.is),
    )

pub check_field-slice_bounds-check_array-count : goal.check_field-slice_bounds-check_array-count
check_field-slice_bounds-check_array-count t c =
    let a = c.args in
    omega (
      arith,
      items_in_law a.form a.modes a.faults a.part.now _ c.meet_of.ensures _ _ _ _ _ _ _ _
          (c.in_ok-met.was ∙ ap Ok c.in-Items.is),
    )

pub check_field-slice_bounds-check_array-start : goal.check_field-slice_bounds-check_array-start
check_field-slice_bounds-check_array-start t c =
    let a = c.args in
    omega (
      arith,
      items_in_law a.form a.modes a.faults a.part.now _ c.meet_of.ensures _ _ _ _ _ _ _ _
          (c.in_ok-met.was ∙ ap Ok c.in-Items.is),
    )

pub check_field-slice_bounds-check_array-end : goal.check_field-slice_bounds-check_array-end
check_field-slice_bounds-check_array-end t c =
    let a = c.args in
    omega (
      arith,
      items_in_law a.form a.modes a.faults a.part.now _ c.meet_of.ensures _ _ _ _ _ _ _ _
          (c.in_ok-met.was ∙ ap Ok c.in-Items.is),
    )

pub check_field-returns-in-Leaf : goal.check_field-returns-in-Leaf
check_field-returns-in-Leaf t c =
    let a = c.args in
    field_leaf a.form a.modes a.faults a.part.now _ c.meet_of.ensures a.left (a.left - 1) (omega arith)
    _ _ _ _ _ (c.in_ok-met.was ∙ ap Ok c.in-Leaf.is)

pub check_field-returns-in-Fields : goal.check_field-returns-in-Fields
check_field-returns-in-Fields t c =
    let a = c.args in
    field_fields a.form a.modes a.faults a.part.now _ c.meet_of.ensures a.left
    (a.left - 1) (omega arith) _ _ _ _ _ _ _ (c.in_ok-met.was ∙ ap Ok c.in-Fields.is) _ c.check_object.ensures _
    c.close.ensures

pub check_field-returns-in-Items : goal.check_field-returns-in-Items
check_field-returns-in-Items t c =
    let a = c.args in
    field_items a.form a.modes a.faults a.part.now _ c.meet_of.ensures a.left
    (a.left - 1) (omega arith) _ _ _ _ _ _ _ _ (c.in_ok-met.was ∙ ap Ok c.in-Items.is) _ c.check_array.ensures _
    c.close-in-Items.ensures

pub check_object-returns-then-room-eq0 : goal.check_object-returns-then-room-eq0
check_object-returns-then-room-eq0 t c =
    let a = c.args in let l = c.loop-at in
    fields_out a.form a.modes a.left a.faults a.part.now l.at _ l.met l.run l.invariant (omega arith) (omega arith)

pub check_object-overflow_add-at : goal.check_object-overflow_add-at
check_object-overflow_add-at t c =
    let a = c.args in
    let l = c.loop-at in
    omega (
      arith,
      (fields_step a.form a.modes a.left a.faults a.part.now l.at _ l.met l.run l.invariant (omega arith)
          (omega arith) _ c.check_field.ensures _ c.in_ok-field.was).inside,
    )

pub check_object-loop-at-preserved : goal.check_object-loop-at-preserved
check_object-loop-at-preserved t c =
    let a = c.args in
    let l = c.loop-at in
    rw c.add-run.ensures (fields_step a.form a.modes a.left a.faults a.part.now l.at _ l.met l.run l.invariant
    (omega arith) (omega arith) _ c.check_field.ensures _ c.in_ok-field.was)

pub check_object-returns : goal.check_object-returns
check_object-returns t c = search (fields_nameless, rules)

pub check_array-loop-read-init : goal.check_array-loop-read-init
check_array-loop-read-init t c = search (items_start, rules)

pub check_array-returns-in_err-field : goal.check_array-returns-in_err-field
check_array-returns-in_err-field t c =
    let a = c.args in
    let l = c.loop-read in
    let p = err_from_is_err_and c.from_residual.result c.from_residual.ensures.1 in
    rw (p.1, p.2) (items_fault a.form a.count a.modes a.left a.faults a.part.now l.at _ l.met l.run l.invariant (omega arith) _
    c.check_field.ensures _ c.in_err-field.was)

pub check_field-returns-then-left-eq0 : goal.check_field-returns-then-left-eq0
check_field-returns-then-left-eq0 t c = search (field_deep, rules)

pub check_field-returns-in_err-met : goal.check_field-returns-in_err-met
check_field-returns-in_err-met t c =
    let a = c.args in
    let p = err_from_is_err_and c.from_residual.result c.from_residual.ensures.1 in
    rw (p.1, p.2) (field_stop a.form a.modes a.faults a.part.now _ c.meet_of.ensures a.left (a.left - 1) (omega arith) _ c.in_err-met.was)

pub check_object-loop-at-init : goal.check_object-loop-at-init
check_object-loop-at-init t c = search (fields_start, rules)

pub check_object-returns-in_err-field : goal.check_object-returns-in_err-field
check_object-returns-in_err-field t c =
    let a = c.args in
    let l = c.loop-at in
    let p = err_from_is_err_and c.from_residual.result c.from_residual.ensures.1 in
    rw (p.1, p.2) (fields_fault a.form a.modes a.left a.faults a.part.now l.at _ l.met l.run l.invariant (omega arith) (omega arith) _
    c.check_field.ensures _ c.in_err-field.was)
