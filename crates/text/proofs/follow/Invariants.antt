-- `text::follow` meets its contract. The loop's invariant: the bytes so far are in their ranges.
use Rattle.text.proofs.Steps.{Kept}
use Rattle.text.proofs.follow.Given as goal

abbrev pub invariant-loop-k : goal.invariant-loop-k
invariant-loop-k g l = Kept l.low-items l.part l.at l.k
