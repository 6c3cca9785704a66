-- What is asked of the checks, and the mask where a table is lent.
use Rattle.std.specs.Prelude.{ℕ, List, length, replicate, Result}
use Rattle.faults.specs.declared.Modes.{Modes}
use Rattle.format.specs.Mask.{is_asked, names_mode, format_mode, mask}
use Rattle.named.specs.Top as named
use Rattle.contents.specs.declared.Field.{Field}
use Rattle.format.specs.declared.Stop.{Stop}

abbrev pub asked : ℕ → Modes
asked n = record { names = is_asked n names_mode; format = is_asked n format_mode }

-- the check of the top field of a payload within the limit
abbrev pub top_at : ℕ → List ℕ → Result Field Stop
top_at n s = named.top_at (asked n) s

-- the mask, and the table
pub record Masked : Type 0 where
  pub answer : ℕ
  pub table : List ℕ

-- the table holds zeros
unfoldable pub mask_with : ℕ → List ℕ → List ℕ → Masked
mask_with n s t = record { answer = mask n s; table = replicate (length t) 0 }
