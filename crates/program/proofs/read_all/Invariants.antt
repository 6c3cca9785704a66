-- The loop's invariant: some parts were typed on, which with the bytes left make fewer than 2^64, and both slices keep their lengths.
use Prim.Native.Nat.{◌+◌, ◌^◌, ◌<◌}
use mathlib.Core.Path.{◌≡◌}
use lib.ListN.{length}
use Rattle.program.specs.Input.{Reached, joined}
use Rattle.program.proofs.read_all.Given as goal

abbrev pub invariant-loop-left : goal.invariant-loop-left
invariant-loop-left l =
    (length l.chunk ≡ length l.initial.chunk) × (length l.list ≡ length l.initial.list) × (r : Reached l.initial.list l.typing l.list)
    × (length (joined r.parts) + l.left < 2 ^ 64)

abbrev pub decreases-loop-left : goal.decreases-loop-left
decreases-loop-left l = l.left
