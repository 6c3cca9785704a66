-- The check of a payload's top field, with the modes asked; and what a lent table holds then.
use Rattle.std.specs.Prelude.{ℕ, cond, List, length, replicate, ltb, Result, Err}
use Rattle.format.specs.declared.Form.TheVariants.{Top}
use Rattle.format.specs.declared.Stop.TheVariants.{TooLong}
use Rattle.format.specs.declared.Stop.{Stop}
use Rattle.format.specs.Limits.{depth_limit, length_limit}
use Rattle.faults.specs.declared.Modes.{Modes}
use Rattle.faults.specs.Noted.{nothing}
use Rattle.checks.specs.Checks.{field_at}
use Rattle.contents.specs.declared.Field.{Field}

-- of a payload within the limit
abbrev pub top_at : Modes → List ℕ → Result Field Stop
top_at m s = field_at Top m depth_limit nothing s

-- one that is too long is not looked at
unfoldable pub top_within : Modes → List ℕ → Result Field Stop
top_within m s = cond (ltb length_limit (length s)) (Err TooLong) (top_at m s)

-- the answer, and the table
pub record Checked : Type 0 where
  pub answer : Result Field Stop
  pub table : List ℕ

-- the table holds zeros
unfoldable pub top_with : Modes → List ℕ → List ℕ → Checked
top_with m s t = record { answer = top_within m s; table = replicate (length t) 0 }
