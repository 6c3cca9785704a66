-- A VarUInt put into a buffer.
use Rattle.std.specs.Prelude.{ℕ, ◌+◌, cond, List, length, leb, Option, Some, None}
use Rattle.std.proofs.lemmas.List.Edits.{sets}
use Rattle.number.specs.VarUInt.{encoded}

-- the answer, and what the buffer holds afterwards
pub record Afterwards : Type 0 where
  pub answer : Option ℕ
  pub held : List ℕ

abbrev pub afterwards : Option ℕ → List ℕ → Afterwards
afterwards a l = record { answer = a; held = l }

-- v in its minimal form at `at`, and the position behind it; where it does not fit, nothing
abbrev pub put_at : ℕ → List ℕ → ℕ → Afterwards
put_at v out at =
    cond (leb (at + length (encoded v)) (length out))
    (afterwards (Some (at + length (encoded v))) (sets out at (encoded v)))
    (afterwards None out)
