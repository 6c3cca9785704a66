-- `encode::scatter` meets its contract. The loop's invariant: all but the first i bytes are put. Assumes nothing.
use Rattle.encode.proofs.PutLaws.{Scattered}
use Rattle.encode.proofs.scatter.Given as goal

abbrev pub invariant-loop-i : goal.invariant-loop-i
invariant-loop-i l = Scattered l.v l.at l.n l.initial.out l.out l.rest l.i
