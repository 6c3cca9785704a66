use Prim.Native.Nat.{◌-◌}
use lib.ListN.{length}
use Rattle.select.proofs.SearchReturns.{Gathering}
use Rattle.select.proofs.gather.Given as goal

abbrev pub invariant-loop-at : goal.invariant-loop-at
invariant-loop-at l = Gathering l.source l.part l.low l.initial.table l.table l.at l.pass

abbrev pub decreases-loop-at : goal.decreases-loop-at
decreases-loop-at l = length l.part - l.at
