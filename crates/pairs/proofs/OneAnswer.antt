-- No second answer, for entries of one name.
use Prim.Native.Nat.{ℕ}
use mathlib.Core.List.{List}
use lib.ListN.{take}
use Rattle.number.proofs.OneAnswer.{One, one}
use Rattle.entries.specs.Least.{is_first, least}

-- not: one for which an entry is its own twin
pub is_first_one : (part : List ℕ) (x y : ℕ) → One (is_first part x y)
is_first_one part x y = one (is_first part x y)

-- not: one that tells the last twin, or the first of two entries of one name
pub first_twin_one : (part table : List ℕ) (n : ℕ) → One (least part (take n table))
first_twin_one part table n = one (least part (take n table))
