use Prim.Native.Nat.{ℕ}
use Prim.Native.Nat.{◌+◌, ◌-◌, ◌*◌}
use mathlib.Core.Path.{◌≡◌}
use mathlib.Core.List.{List}
use lib.ListN.{length}
use Rattle.write.proofs.PutState.{PutLoop}
use Rattle.write.proofs.+put_contents_put_field.Given as goal

abbrev pub decreases-put_contents : goal.decreases-put_contents
decreases-put_contents l = 2 * l.left + 1

abbrev pub decreases-put_field : goal.decreases-put_field
decreases-put_field l = 2 * l.left

abbrev pub invariant-put_contents-loop-p : goal.invariant-put_contents-loop-p
invariant-put_contents-loop-p l =
    (length l.out ≡ length l.initial.out) × (length l.work ≡ length l.initial.work)
    × ((O W : List ℕ) → PutLoop l.left l.list l.at l.named l.to l.k O W l.q l.typed l.initial.out l.initial.work l.initial.p l.initial.e l.initial.j l.initial.count → PutLoop l.left l.list l.at l.named l.to l.k O W l.q l.typed l.out l.work l.p l.e l.j
    l.count)

abbrev pub decreases-put_contents-loop-p : goal.decreases-put_contents-loop-p
decreases-put_contents-loop-p l = length l.list - l.p
