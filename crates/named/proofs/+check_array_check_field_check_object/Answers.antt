use borrow.Author.Rules.{rules}
use native.Mathlib.Omega.{arith}
use Prim.Native.Nat.{◌+◌, ◌-◌}
use mathlib.Core.Path.{◌≡◌, refl, ap, ◌∙◌}
use Rattle.std.proofs.lemmas.Result.{err_from_is_err_and}
use Rattle.std.specs.Prelude.{Ok}
use Rattle.checks.proofs.FieldCases.{fields_in_law, items_in_law}
use Rattle.checks.proofs.SizedItems.{sized_items_law}
use Rattle.named.proofs.NamedCases.{fields_short, items_short, rest_short, kept}
use Rattle.named.proofs.NamedCases.{named_deep, named_stop, named_leaf, named_fields, named_items}
use Rattle.named.proofs.ObjectLaws.{object_start, object_kept, object_out, object_held, back_kept}
use Rattle.named.proofs.ObjectLaws.{object_fault, object_inside, object_name, object_starts, object_step, object_end_law, object_lent}
use Rattle.named.proofs.ArrayLaws.{array_start, array_kept, array_back, array_at}
use Rattle.named.proofs.ArrayLaws.{array_fault, array_inside, array_step, array_left, array_end_law}
use Rattle.named.proofs.+check_array_check_field_check_object.Goals as goal

pub check_array-overflow_add-at : goal.check_array-overflow_add-at
check_array-overflow_add-at t c =
    let l = c.loop-read in omega (
      arith,
      array_inside _ _ _ _ _ _ _ _ _ _
          _ _ l.invariant (omega arith) _ c.check_field.ensures.0 _ c.in_ok-field.was,
    )

pub check_field-slice_bounds-check_object-count : goal.check_field-slice_bounds-check_object-count
check_field-slice_bounds-check_object-count t c =
    let a = c.args in omega (
      arith,
      fields_in_law a.form a.modes a.faults a.part.now _ c.meet_of.ensures _ _ _ _ _ _ _ (c.in_ok-met.was ∙ ap Ok c.in-Fields.is),
    )

pub check_field-slice_bounds-check_object-start : goal.check_field-slice_bounds-check_object-start
check_field-slice_bounds-check_object-start t c =
    let a = c.args in omega (
      arith,
      fields_in_law a.form a.modes a.faults a.part.now _ c.meet_of.ensures _ _ _ _ _ _ _ (c.in_ok-met.was ∙ ap Ok c.in-Fields.is),
    )

pub check_field-slice_bounds-check_object-end : goal.check_field-slice_bounds-check_object-end
check_field-slice_bounds-check_object-end t c =
    let a = c.args in omega (
      arith,
      fields_in_law a.form a.modes a.faults a.part.now _ c.meet_of.ensures _ _ _ _ _ _ _ (c.in_ok-met.was ∙ ap Ok c.in-Fields.is),
    )

pub check_field-slice_bounds-check_array-count : goal.check_field-slice_bounds-check_array-count
check_field-slice_bounds-check_array-count t c =
    let a = c.args in omega (
      arith,
      items_in_law a.form a.modes a.faults a.part.now _ c.meet_of.ensures _ _ _ _ _ _ _ _ (c.in_ok-met.was ∙ ap Ok c.in-Items.is),
    )

pub check_field-slice_bounds-check_array-start : goal.check_field-slice_bounds-check_array-start
check_field-slice_bounds-check_array-start t c =
    let a = c.args in omega (
      arith,
      items_in_law a.form a.modes a.faults a.part.now _ c.meet_of.ensures _ _ _ _ _ _ _ _ (c.in_ok-met.was ∙ ap Ok c.in-Items.is),
    )

pub check_field-slice_bounds-check_array-end : goal.check_field-slice_bounds-check_array-end
check_field-slice_bounds-check_array-end t c =
    let a = c.args in omega (
      arith,
      items_in_law a.form a.modes a.faults a.part.now _ c.meet_of.ensures _ _ _ _ _ _ _ _ (c.in_ok-met.was ∙ ap Ok c.in-Items.is),
    )

pub check_field-returns-in-Leaf : goal.check_field-returns-in-Leaf
check_field-returns-in-Leaf t c =
    let a = c.args in (
      named_leaf a.form a.modes a.faults a.part.now _
          c.meet_of.ensures a.left (a.left - 1) (omega arith) _ _ _ _ _ (c.in_ok-met.was ∙ ap Ok c.in-Leaf.is),
      kept _,
    )

pub check_field-returns-in-Fields : goal.check_field-returns-in-Fields
check_field-returns-in-Fields t c =
    let a = c.args in (
      named_fields
          a.form a.modes a.faults a.part.now _ c.meet_of.ensures
          a.left (a.left - 1) (omega arith) _ _ _ _ _ _ _ (c.in_ok-met.was ∙ ap Ok c.in-Fields.is) _
          c.check_object.ensures.0 _ c.close.ensures,
      c.check_object.ensures.1,
    )

pub check_field-returns-in-Items : goal.check_field-returns-in-Items
check_field-returns-in-Items t c =
    let a = c.args in (
      named_items
          a.form a.modes a.faults a.part.now _ c.meet_of.ensures
          a.left (a.left - 1) (omega arith) _ _ _ _ _ _ _ _ (c.in_ok-met.was ∙ ap Ok c.in-Items.is) _
          c.check_array.ensures.0 _ c.close-in-Items.ensures,
      c.check_array.ensures.1,
    )

pub check_object-shape_of-table-then-room-eq0 : goal.check_object-shape_of-table-then-room-eq0
check_object-shape_of-table-then-room-eq0 t c = (object_kept _ _ _ _ _ _ _ _ _ _ _ _ c.loop-at.invariant).is

pub check_object-offset_bounds-table-held : goal.check_object-offset_bounds-table-held
check_object-offset_bounds-table-held t c = omega (arith, object_held _ _ _ _ _ _ _ _ _ _ _ _ c.loop-at.invariant _ c.held-held.ensures)

pub check_object-slice_bounds-check_field-count-in-loop-at : goal.check_object-slice_bounds-check_field-count-in-loop-at
check_object-slice_bounds-check_field-count-in-loop-at t c = omega (arith, object_held _ _ _ _ _ _ _ _ _ _ _ _ c.loop-at.invariant _ c.held-held.ensures)

pub check_object-slice_bounds-check_field-start-in-loop-at : goal.check_object-slice_bounds-check_field-start-in-loop-at
check_object-slice_bounds-check_field-start-in-loop-at t c = omega (arith, object_held _ _ _ _ _ _ _ _ _ _ _ _ c.loop-at.invariant _ c.held-held.ensures)

pub check_object-slice_bounds-check_field-end-in-loop-at : goal.check_object-slice_bounds-check_field-end-in-loop-at
check_object-slice_bounds-check_field-end-in-loop-at t c = omega (arith, object_held _ _ _ _ _ _ _ _ _ _ _ _ c.loop-at.invariant _ c.held-held.ensures)

pub check_object-note-notes-requires : goal.check_object-note-notes-requires
check_object-note-notes-requires t c = (
  c.requires,
  omega arith,
  object_name _ _ _ _ _ _ _ _ _ _ _ _
      c.loop-at.invariant _
      c.held-held.ensures _ _
      c.check_field.ensures.1 refl (omega arith) (omega arith) _
      c.check_field.ensures.0 _ c.in_ok-field.was,
  object_starts _ _ _ _ _ _ _
      _ _ _ _ _ c.loop-at.invariant _
      c.held-held.ensures _ _
      c.check_field.ensures.1 refl (omega arith) (omega arith) _
      c.check_field.ensures.0 _ c.in_ok-field.was,
)

pub check_object-overflow_add-at : goal.check_object-overflow_add-at
check_object-overflow_add-at t c =
    omega (
      arith,
      object_inside _ _ _ _ _ _ _ _ _ _ _ _
          c.loop-at.invariant _
          c.held-held.ensures _ _
          c.check_field.ensures.1 refl (omega arith) (omega arith) _
          c.check_field.ensures.0 _ c.in_ok-field.was,
    )

pub check_object-loop-at-preserved : goal.check_object-loop-at-preserved
check_object-loop-at-preserved t c =
    object_step _ _ _ _ _ _ _ _ _ _ _ _
    c.loop-at.invariant _
    c.held-held.ensures _ _
    c.check_field.ensures.1 refl (omega arith) (omega arith) _
    c.check_field.ensures.0 _ c.in_ok-field.was _ _ c.note-notes.ensures _ c.add-run.ensures

pub check_object-shape_of-table : goal.check_object-shape_of-table
check_object-shape_of-table t c =
    (object_lent _ _ _ _ _ _ _ _ _ _ _ _ c.loop-at.invariant _ _
    c.first_twin-first.ensures).is

pub check_object-returns : goal.check_object-returns
check_object-returns t c = (
  object_end_law _ _ _ _ _ _ _ _ _ _ _ _ c.loop-at.invariant
      c.requires (omega arith) _ _
      c.first_twin-first.ensures
      _ c.end_object.ensures,
  object_lent _ _ _ _ _ _ _ _ _ _ _ _ c.loop-at.invariant _ _
      c.first_twin-first.ensures,
)

pub check_array-returns-then-size-gt0 : goal.check_array-returns-then-size-gt0
check_array-returns-then-size-gt0 t c = search (sized_items_law, kept, rules)

pub check_array-loop-read-init : goal.check_array-loop-read-init
check_array-loop-read-init t c = search (array_start, rules)

pub check_array-slice_bounds-check_field-count : goal.check_array-slice_bounds-check_field-count
check_array-slice_bounds-check_field-count t c = search (array_at, rules)

pub check_array-slice_bounds-check_field-start : goal.check_array-slice_bounds-check_field-start
check_array-slice_bounds-check_field-start t c = search (array_at, rules)

pub check_array-check_field-requires : goal.check_array-check_field-requires
check_array-check_field-requires t c = search (rest_short, rules)

pub check_array-loop-read-preserved : goal.check_array-loop-read-preserved
check_array-loop-read-preserved t c =
    let l = c.loop-read in
    let fewer : c.args.count - (l.read + 1) ≡ c.args.count - l.read - 1 = omega arith in
    rw fewer (array_step _ _ _ _ _ _ _ _ _ _ _ _ l.invariant (omega arith) _ c.check_field.ensures.0 _ c.in_ok-field.was _ c.check_field.ensures.1 _
    c.add-run.ensures)

pub check_array-returns-in_err-field : goal.check_array-returns-in_err-field
check_array-returns-in_err-field t c =
    let l = c.loop-read in
    let p = err_from_is_err_and c.from_residual.result c.from_residual.ensures.1 in
    rw (p.1, p.2) (
      array_fault _ _ _ _ _ _ _ _ _ _ _ _ l.invariant (omega arith) _ c.check_field.ensures.0 _ c.in_err-field.was,
      array_back _ _ _ _ _ _ _ _ _ _ _ _ l.invariant _ c.check_field.ensures.1,
    )

pub check_array-returns-then-at-part : goal.check_array-returns-then-at-part
check_array-returns-then-at-part t c =
    let l = c.loop-read in (
      array_left _ _ _ _ _ _ _ _ _ _ _ _ l.invariant (omega arith) (omega arith),
      array_kept _ _ _ _ _ _ _ _ _ _ _ _ l.invariant,
    )

pub check_array-returns : goal.check_array-returns
check_array-returns t c =
    let l = c.loop-read in (
      array_end_law _ _ _ _ _ _ _ _ _ _ _ _ l.invariant (omega arith) (omega arith) _ c.end_array.ensures,
      array_kept _ _ _ _ _ _ _ _ _ _ _ _ l.invariant,
    )

pub check_field-returns-then-left-eq0 : goal.check_field-returns-then-left-eq0
check_field-returns-then-left-eq0 t c = search (named_deep, kept, rules)

pub check_field-returns-in_err-met : goal.check_field-returns-in_err-met
check_field-returns-in_err-met t c =
    let a = c.args in
    let p = err_from_is_err_and c.from_residual.result c.from_residual.ensures.1 in
    rw (p.1, p.2) (
      named_stop a.form a.modes a.faults a.part.now _ c.meet_of.ensures a.left (a.left - 1) (omega arith) _ c.in_err-met.was,
      kept _,
    )

pub check_object-loop-at-init : goal.check_object-loop-at-init
check_object-loop-at-init t c = search (object_start, rules)

pub check_object-returns-then-room-eq0 : goal.check_object-returns-then-room-eq0
check_object-returns-then-room-eq0 t c = search (object_out, object_kept, rules)

pub check_object-check_field-requires : goal.check_object-check_field-requires
check_object-check_field-requires t c = search (rest_short, rules)

pub check_object-returns-in_err-field : goal.check_object-returns-in_err-field
check_object-returns-in_err-field t c =
    let l = c.loop-at in
    let p = err_from_is_err_and c.from_residual.result c.from_residual.ensures.1 in
    rw (p.1, p.2) (
      object_fault _ _ _ _ _ _ _ _ _ _ _ _ l.invariant _ c.held-held.ensures _ _ c.check_field.ensures.1 refl (omega arith) (omega arith) _
          c.check_field.ensures.0 _ c.in_err-field.was,
      back_kept _ _ _ _ _ _ _ _ _ _ _ _ l.invariant _ c.held-held.ensures _ _ c.check_field.ensures.1 refl,
    )
