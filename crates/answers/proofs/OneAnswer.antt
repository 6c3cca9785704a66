-- No second answer, for what the program answers: the text, its length and whether it is a refusal, the output and the work numbers.
use Prim.Native.Nat.{ℕ}
use mathlib.Core.List.{List}
use Rattle.number.proofs.OneAnswer.{One, one}
use Rattle.frames.specs.Program.{bytes_typed}
use Rattle.hexadecimal.specs.declared.Typing.{Typing}
use Rattle.answers.specs.Answer.{answered_of, answered}

-- not: one that tells an odd digit count by what was typed before it; one that tells the place of another byte
pub answer_one : (typing : Typing) (list text output work : List ℕ) → One (answered typing list text output work)
answer_one typing list text output work = one (answered typing list text output work)

pub whole_one : (input text output work : List ℕ) → One (answered_of (bytes_typed input) text output work)
whole_one input text output work = one (answered_of (bytes_typed input) text output work)
