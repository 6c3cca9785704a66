-- Names that stand in a part one after another, as entries, and the first that is equal to one before it. An entry holds a part shorter than 16,777,216 bytes.
use Rattle.std.specs.Prelude.{ℕ, zero, suc, cond, List, [], ◌∷◌, ◌++◌, leb, length, drop, replicate, Some, Option, None}
use Rattle.names.specs.FieldNames.{name_at}
use Rattle.passing.specs.FrameNames as frames
use Rattle.entries.specs.Entry.{entry_of}
use Rattle.entries.specs.Least.{least}
use Rattle.select.specs.declared.Source.{Source}
use Rattle.select.specs.declared.Source.TheVariants as S
use Rattle.names.specs.declared.Name.{Name}

abbrev pub named_at : Source → ℕ → List ℕ → Option Name
named_at (S.Fields f) a s = name_at f a s
named_at (S.Frames d p) a s = cond (leb a p) (frames.name_at d a s) None

abbrev pub entries_after : List ℕ → Option Name → (ℕ → List ℕ) → List ℕ
entries_after s None more = []
entries_after s (Some p) more = entry_of s p.begin p.end ∷ more p.next

-- from a position on. The number bounds how many, and the length is enough
unfoldable pub entries_from : Source → List ℕ → ℕ → ℕ → List ℕ
entries_from o s zero a = []
entries_from o s (suc k) a = entries_after s (named_at o a s) (λ n. entries_from o s k n)

abbrev pub entries_of : Source → List ℕ → List ℕ
entries_of o s = entries_from o s (length s) 0

-- where it begins; 16777216 if every name stands once
unfoldable pub first_twin : Source → List ℕ → ℕ
first_twin o s = least s (entries_of o s)

-- the answer, and what the table holds afterwards
pub record Searched : Type 0 where
  pub answer : ℕ
  pub table : List ℕ

-- zeros in place of n numbers
abbrev pub zeroed : ℕ → List ℕ → List ℕ
zeroed n t = replicate n 0 ++ drop n t

-- a table that holds all names is used for so many; another as a whole
unfoldable pub searched : Source → List ℕ → List ℕ → Searched
searched o s t = record { answer = first_twin o s; table = zeroed (cond (leb (length (entries_of o s)) (length t)) (length (entries_of o s)) (length t)) t }
