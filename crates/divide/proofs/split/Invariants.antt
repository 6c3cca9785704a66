use Rattle.divide.proofs.SplitReturns.{Splitting}
use Rattle.divide.proofs.split.Given as goal

abbrev pub invariant-loop-i : goal.invariant-loop-i
invariant-loop-i l = Splitting l.part l.at l.mid l.lows l.initial.table l.table l.k l.i
