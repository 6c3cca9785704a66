use Rattle.select.proofs.FillReturns.{Filling}
use Prim.Native.Nat.{◌-◌}
use lib.ListN.{length}
use Rattle.select.proofs.fill.Given as goal

abbrev pub invariant-loop-at : goal.invariant-loop-at
invariant-loop-at l = Filling l.source l.part l.initial.table l.table l.at l.n

abbrev pub decreases-loop-at : goal.decreases-loop-at
decreases-loop-at l = length l.part - l.at
