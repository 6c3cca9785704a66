-- Input that is read in parts: each is typed on behind those before it. No contract can say what is read: these say that what is typed, and then printed, is
-- that of some parts, whatever they were, typed from nothing, one behind the other. That they are what stands in the input is run (tests/statuses,
-- tests/answer), and not proved.
use Rattle.std.specs.Prelude.{ℕ, ◌^◌, ◌≤◌, ◌<◌, ◌≡◌, List, [], ◌∷◌, ◌++◌, length, Option, Some, None}
use Rattle.format.specs.Encoding.{concat}
use Rattle.frames.specs.Writer.{Outcome, refuse, wrote}
use Rattle.frames.specs.Program.{bytes_typed, program_of, program}
use Rattle.hexadecimal.specs.declared.Typing.{Typing}
use Rattle.hexadecimal.specs.Typing.{Fed, afterwards, start, onward, fed}

abbrev pub fed_parts : List (List ℕ) → Typing → List ℕ → Fed
fed_parts [] t l = afterwards t l
fed_parts (s ∷ ss) t l = onward (fed_parts ss) (fed s t l)

abbrev pub joined : List (List ℕ) → List ℕ
joined ss = concat (λ s. s) ss

-- what was typed, and what the list holds, after some parts of fewer than 2^64 bytes
pub record Reached (before : List ℕ) (t : Typing) (list : List ℕ) : Type 0 where
  pub parts : List (List ℕ)
  pub few : length (joined parts) < 2 ^ 64
  pub is : afterwards t list ≡ fed_parts parts start before

-- none where a read failed
abbrev pub Heard : Option Typing → List ℕ → List ℕ → Type 0
Heard (Some t) before list = Reached before t list
Heard None before list = Unit {0}

-- the exit status of an answer that was written
abbrev pub status_of : Outcome → ℕ
status_of (refuse n p) = 1
status_of (wrote e z) = 0

-- for some parts the text's front is what the program prints of them, and the status is that of it
pub record Ran (status : ℕ) (text : List ℕ) : Type 0 where
  pub parts : List (List ℕ)
  pub rest : List ℕ
  pub text_is : text ≡ program (joined parts) ++ rest
  pub status_is : status ≡ status_of (program_of (bytes_typed (joined parts)))
