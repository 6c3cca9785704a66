-- No second answer, for what is asked of all entries of a table.
use Prim.Native.Nat.{ℕ}
use mathlib.Core.List.{List}
use Rattle.number.proofs.OneAnswer.{One, one}
use Rattle.tables.specs.Fit.{all_fit}
use Rattle.tables.specs.Second.{second}

-- not: one that tells the last beginning
pub second_one : (table : List ℕ) → One (second table)
second_one table = one (second table)

-- not: one that looks at the first entry alone
pub are_fit_one : (part table : List ℕ) → One (all_fit part table)
are_fit_one part table = one (all_fit part table)
