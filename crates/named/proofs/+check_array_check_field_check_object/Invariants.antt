use Prim.Native.Nat.{◌+◌, ◌*◌, ◌-◌}
use Rattle.named.proofs.ObjectLaws.{Object}
use Rattle.named.proofs.ArrayLaws.{Array}
use Rattle.named.proofs.+check_array_check_field_check_object.Given as goal

abbrev pub decreases-check_array : goal.decreases-check_array
decreases-check_array l = 2 * l.left + 1

abbrev pub decreases-check_field : goal.decreases-check_field
decreases-check_field l = 2 * l.left

abbrev pub decreases-check_object : goal.decreases-check_object
decreases-check_object l = 2 * l.left + 1

abbrev pub invariant-check_array-loop-read : goal.invariant-check_array-loop-read
invariant-check_array-loop-read l =
    Array l.form l.count l.modes l.left l.initial.met l.part l.initial.table l.table l.at (l.count - l.read) l.met l.run

abbrev pub invariant-check_object-loop-at : goal.invariant-check_object-loop-at
invariant-check_object-loop-at l =
    Object l.form l.modes l.left l.initial.met l.part l.initial.table l.table l.at l.room l.met l.run l.notes

abbrev pub decreases-check_object-loop-at : goal.decreases-check_object-loop-at
decreases-check_object-loop-at l = l.room
