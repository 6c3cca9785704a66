-- No second answer, for the writer: the one equation that `write` ensures fixes the answer, every byte of the output and every work number. Each of these
-- programs meets it for some lists and is ruled out by it: one that answers Done and writes nothing (the output begins with the encoding); one that always
-- writes `02 00`, the object with no fields (its bytes are the encoding of no other tree); one that leaves work numbers of its own choice (they are the
-- sizes of the containers, and zero past them, or all zero at a refusal).
use mathlib.Core.List.{List}
use Prim.Native.Nat.{ℕ}
use Rattle.number.proofs.OneAnswer.{One, one}
use Rattle.frames.specs.Writer.{written}

pub one_answer : (list output work : List ℕ) → One (written list output work)
one_answer list output work = one (written list output work)
