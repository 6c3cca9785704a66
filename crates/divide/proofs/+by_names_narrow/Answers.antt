use native.Mathlib.Omega.{arith}
use mathlib.Core.Path.{refl, sym}
use Rattle.divide.proofs.NarrowReturns.{narrow_few, narrow_one, narrow_reach, narrow_on, narrow_astride}
use Rattle.divide.proofs.NarrowReturns.{lent_few, lent_less, lent_alike, divided_length, narrow_divided}
use Rattle.divide.proofs.NarrowReturns.{turns_start, turn_length, turn_depth, turn_less, turns_on, turns_end}
use Rattle.divide.proofs.+by_names_narrow.Goals as goal

-- a turn lends half of what it was lent, or less: so the calls stand no deeper than twice the binary digits of the table's length

pub by_names-loop-count-init : goal.by_names-loop-count-init
by_names-loop-count-init t c = turns_start _ _ _ c.requires

pub by_names-slice_bounds-narrow-end : goal.by_names-slice_bounds-narrow-end
by_names-slice_bounds-narrow-end t c = c.loop-count.invariant.few

pub by_names-slice_bounds-narrow-end-in-loop-count : goal.by_names-slice_bounds-narrow-end-in-loop-count
by_names-slice_bounds-narrow-end-in-loop-count t c = sym (turn_length _ _ _ _ _ _ c.loop-count.invariant)

pub by_names-narrow-rest-requires : goal.by_names-narrow-rest-requires
by_names-narrow-rest-requires t c = (
  omega (arith, turn_depth _ _ _ _ _ _ c.loop-count.invariant),
  (omega (arith, turn_length _ _ _ _ _ _ c.loop-count.invariant), c.loop-count.invariant.alike),
)

pub by_names-loop-count-smaller : goal.by_names-loop-count-smaller
by_names-loop-count-smaller t c = turn_less _ _ _ _ _ _ c.loop-count.invariant _ _ _ _ c.narrow-rest.ensures

pub by_names-loop-count-preserved : goal.by_names-loop-count-preserved
by_names-loop-count-preserved t c =
    turns_on _ _ _ _ _ _ c.loop-count.invariant _ _ _ _
    c.narrow-rest.ensures _ c.min-best.ensures

pub by_names-shape_of-table : goal.by_names-shape_of-table
by_names-shape_of-table t c = c.loop-count.invariant.length_kept

pub by_names-returns : goal.by_names-returns
by_names-returns t c = turns_end _ _ _ _ _ _ c.loop-count.invariant (omega arith)

pub narrow-returns-then-n-le4 : goal.narrow-returns-then-n-le4
narrow-returns-then-n-le4 t c = narrow_few _ _ _ _ c.requires.0 c.first_twin.ensures

pub narrow-returns-then-length_of-at : goal.narrow-returns-then-length_of-at
narrow-returns-then-length_of-at t c =
    let given = c.requires in
    narrow_one _ _ _ given.0 given.1 (omega arith) _ c.second.ensures

pub narrow-range_of-low-requires : goal.narrow-range_of-low-requires
narrow-range_of-low-requires t c =
    let given = c.requires in
    (given.0, narrow_reach _ _ _ given.0 given.1 (omega arith))

pub narrow-returns-then-high-low : goal.narrow-returns-then-high-low
narrow-returns-then-high-low t c =
    let given = c.requires in
    narrow_on _ _ _ given.0 given.1 (omega arith) _ _ c.range_of-low.ensures (omega arith)

pub narrow-halve-k-requires : goal.narrow-halve-k-requires
narrow-halve-k-requires t c =
    let given = c.requires in
    narrow_astride _ _ _ given.0 given.1 (omega arith) _ _ c.range_of-low.ensures (omega arith)

pub narrow-slice_bounds-by_names-count : goal.narrow-slice_bounds-by_names-count
narrow-slice_bounds-by_names-count t c =
    let given = c.requires in
    omega (arith, lent_few _ _ _ _ _ given.1 c.halve-k.ensures)

pub narrow-slice_bounds-by_names-start : goal.narrow-slice_bounds-by_names-start
narrow-slice_bounds-by_names-start t c =
    let given = c.requires in
    omega (arith, lent_few _ _ _ _ _ given.1 c.halve-k.ensures)

pub narrow-slice_bounds-by_names-end : goal.narrow-slice_bounds-by_names-end
narrow-slice_bounds-by_names-end t c =
    let given = c.requires in
    omega (arith, lent_few _ _ _ _ _ given.1 c.halve-k.ensures)

pub narrow-by_names-best-requires : goal.narrow-by_names-best-requires
narrow-by_names-best-requires t c =
    let given = c.requires in (
      omega (arith, lent_less _ _ _ _ _ given.1 c.halve-k.ensures),
      lent_alike _ _ _ _ _ given.1 c.halve-k.ensures,
    )

pub narrow-shape_of-table : goal.narrow-shape_of-table
narrow-shape_of-table t c =
    let given = c.requires in
    divided_length _ _ _ _ _ given.1 c.halve-k.ensures _ _ _ c.by_names-best.ensures refl

pub narrow-returns : goal.narrow-returns
narrow-returns t c =
    let given = c.requires in
    narrow_divided _ _ _ _ _ given.1 c.halve-k.ensures _ _ _ c.by_names-best.ensures refl
