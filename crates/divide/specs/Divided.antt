-- The first twin of the first entries of a table, which then hold zeros.
use Rattle.std.specs.Prelude.{ℕ, cond, List, ◌++◌, Option, Some, None, length, take, drop, replicate, ltb}
use Rattle.entries.specs.Least.{least}
use Rattle.tables.specs.Fit.{all_fit}

-- the answer, and what the table holds afterwards
pub record Afterwards : Type 0 where
  pub answer : Option ℕ
  pub table : List ℕ

abbrev pub afterwards : Option ℕ → List ℕ → Afterwards
afterwards a t = record { answer = a; table = t }

-- of the first n entries, if there are so many and they all fit; else nothing
unfoldable pub divided : List ℕ → List ℕ → ℕ → Afterwards
divided s t n =
    cond (ltb (length t) n)
    (afterwards None t)
    (cond (all_fit s (take n t)) (afterwards (Some (least s (take n t))) (replicate n 0 ++ drop n t)) (afterwards None t))
