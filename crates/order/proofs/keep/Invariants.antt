use Rattle.order.proofs.KeepReturns.{Keeping}
use Rattle.order.proofs.keep.Given as goal

abbrev pub invariant-loop-i : goal.invariant-loop-i
invariant-loop-i l = Keeping l.least l.n l.initial.table l.table l.k l.i
