-- What the call on write lists answers in numbers, and what all that was lent holds afterwards.
use Rattle.std.specs.Prelude.{ℕ, cond, List, [], ◌∷◌, length, ltb, Err, Result, Ok}
use Rattle.std.proofs.lemmas.List.Edits.{sets}
use Rattle.frames.specs.Writer.{refusal_number, Afterwards, zeros, written}
use Rattle.replies.specs.Number.{too_few}
use Rattle.frames.specs.declared.Refused.{Refused}

pub record Sent : Type 0 where
  pub code : ℕ
  pub held : List ℕ
  pub output : List ℕ
  pub work : List ℕ

-- 0, or the refusal's number
abbrev pub code_of : Result ℕ Refused → ℕ
code_of (Ok n) = 0
code_of (Err q) = refusal_number q.refusal

-- the encoding's length, or the refusal's place
abbrev pub number_of : Result ℕ Refused → ℕ
number_of (Ok n) = n
number_of (Err q) = q.place

abbrev pub sent_of : Afterwards → List ℕ → Sent
sent_of r l = record { code = code_of r.answer; held = sets l 0 (number_of r.answer ∷ []); output = r.output; work = r.work }

-- where no number is lent for the answer, nothing is written: the output is left, and all work numbers are zero
unfoldable pub sent : List ℕ → List ℕ → List ℕ → List ℕ → Sent
sent list output work l =
    cond (ltb (length l) 1) (record { code = too_few; held = l; output = output; work = zeros (length work) }) (sent_of (written list output work) l)
