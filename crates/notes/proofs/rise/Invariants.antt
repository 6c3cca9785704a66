use Rattle.notes.proofs.NoteReturns.{Rise}
use Rattle.notes.proofs.rise.Given as goal

abbrev pub invariant-loop-i : goal.invariant-loop-i
invariant-loop-i l = Rise l.part l.table l.n l.x l.i l.next
