-- What the program answers to what was typed, and what all that it lends holds afterwards (document 01, "The write list", its last paragraph). `program`, of
-- all that was read, is in frames' Program.antt, and program's proofs/InParts.antt says that this gives it, in whatever parts it was read.
use Rattle.std.specs.Prelude.{ℕ, Bool, true, false, ◌||◌, cond, List, ◌++◌, length, take, drop, is_some}
use Rattle.frames.specs.Writer.{Outcome, refuse, wrote, zeros, written}
use Rattle.frames.specs.Program.{Typed, typed, mistyped, printed, program_of}
use Rattle.hexadecimal.specs.declared.Typing.{Typing}
use Rattle.answers.specs.declared.Printed.{Printed}

-- mistyped at the byte being formed; or the bytes that stand at the list's front. Where more are formed than the list has room for, it is all of the list
abbrev pub typed_of : Typing → List ℕ → Typed
typed_of t list = cond (is_some t.digit || t.wrong) (mistyped t.formed) (typed (take t.formed list))

-- the answer, and what was lent
pub record Answered : Type 0 where
  pub answer : Printed
  pub text : List ℕ
  pub output : List ℕ
  pub work : List ℕ

abbrev pub afterwards : Printed → List ℕ → List ℕ → List ℕ → Answered
afterwards a text output work = record { answer = a; text = text; output = output; work = work }

abbrev pub is_refused : Outcome → Bool
is_refused (refuse n p) = true
is_refused (wrote e z) = false

-- the text's front is all that is printed, with its line end; the rest is as it was
abbrev pub told : Outcome → List ℕ → List ℕ → List ℕ → Answered
told o text output work =
    afterwards (record { length = length (printed o); refused = is_refused o }) (printed o ++ drop (length (printed o)) text) output work

-- the writer is called on what is well typed alone; a refusal zeroes all work numbers, one that comes before it too
abbrev pub answered_of : Typed → List ℕ → List ℕ → List ℕ → Answered
answered_of (typed list) text output work = told (program_of (typed list)) text (written list output work).output (written list output work).work
answered_of (mistyped n) text output work = told (program_of (mistyped n)) text output (zeros (length work))

unfoldable pub answered : Typing → List ℕ → List ℕ → List ℕ → List ℕ → Answered
answered t list text output work = answered_of (typed_of t list) text output work
