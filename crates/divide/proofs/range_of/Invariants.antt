use Prim.Native.Nat.{◌+◌}
use Rattle.divide.proofs.RangeReturns.{Ranging}
use Rattle.divide.proofs.range_of.Given as goal

abbrev pub invariant-loop-x : goal.invariant-loop-x
invariant-loop-x l = Ranging l.part l.at l.table l.low l.high (l.x-index + 1)
