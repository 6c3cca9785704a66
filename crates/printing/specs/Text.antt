-- What is put into the text that the program writes, and where the next character goes.
use Rattle.std.specs.Prelude.{ℕ, ◌+◌, cond, List, length, ltb}
use Rattle.std.proofs.lemmas.List.Edits.{sets}

pub record Put : Type 0 where
  pub next : ℕ
  pub text : List ℕ

-- characters one behind the other
unfoldable pub put : List ℕ → List ℕ → ℕ → Put
put s text at = record { next = at + length s; text = sets text at s }

-- at the front, where there is room for n characters; else nothing is put
unfoldable pub put_in : ℕ → List ℕ → List ℕ → Put
put_in n s text = cond (ltb (length text) n) (record { next = 0; text = text }) (put s text 0)
