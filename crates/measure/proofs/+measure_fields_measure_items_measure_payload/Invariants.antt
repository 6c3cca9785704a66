-- The first pass, its three functions that call each other: each call inside has fewer levels left, or a payload's contents.
use Rattle.std.proofs.Common.{length, ◌-◌, ◌+◌, ◌*◌, ◌≡◌, true, false}
use Rattle.measure.proofs.LoopReturns.{Standing}
use Rattle.measure.proofs.NameLaws.{NamesRead}
use Rattle.measure.proofs.+measure_fields_measure_items_measure_payload.Given as goal

abbrev pub decreases-measure_fields : goal.decreases-measure_fields
decreases-measure_fields l = 2 * l.left

abbrev pub decreases-measure_items : goal.decreases-measure_items
decreases-measure_items l = 2 * l.left

abbrev pub decreases-measure_payload : goal.decreases-measure_payload
decreases-measure_payload l = 2 * l.left + 1

abbrev pub invariant-measure_items-loop-p : goal.invariant-measure_items-loop-p
invariant-measure_items-loop-p l =
    (length l.table ≡ length l.initial.table) × (length l.work ≡ length l.initial.work)
    × Standing l.left l.list l.at false l.k l.initial.work l.work l.p l.j l.contents.count l.contents.sum l.contents.shared

abbrev pub decreases-measure_items-loop-p : goal.decreases-measure_items-loop-p
decreases-measure_items-loop-p l = length l.list - l.p

abbrev pub invariant-measure_fields-loop-p : goal.invariant-measure_fields-loop-p
invariant-measure_fields-loop-p l =
    (length l.table ≡ length l.initial.table) × (length l.work ≡ length l.initial.work)
    × Standing l.left l.list l.at true l.k l.initial.work l.work l.p l.j l.contents.count l.contents.sum l.contents.shared
    × NamesRead l.left l.list l.at l.table l.notes l.reach l.contents.count l.p

abbrev pub decreases-measure_fields-loop-p : goal.decreases-measure_fields-loop-p
decreases-measure_fields-loop-p l = length l.list - l.p
