use Prim.Native.Nat.{◌-◌}
use lib.ListN.{length}
use Rattle.used.proofs.PlaceReturns.{Passed}
use Rattle.used.proofs.place_of.Given as goal

abbrev pub invariant-loop-at : goal.invariant-loop-at
invariant-loop-at l = Passed l.left l.part l.begin l.at

abbrev pub decreases-loop-at : goal.decreases-loop-at
decreases-loop-at l = length l.part - l.at
