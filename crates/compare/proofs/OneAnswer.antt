-- No second answer, for the order of two names.
use Prim.Native.Nat.{ℕ}
use mathlib.Core.List.{List}
use Rattle.number.proofs.OneAnswer.{One, one}
use Rattle.entries.specs.Entry.{name_in}
use Rattle.compare.specs.Order.{order, upto, ascends}

-- not: one for which names of one key are the same
pub compare_one : (part : List ℕ) (x y : ℕ) → One (order (name_in part x) (name_in part y))
compare_one part x y = one (order (name_in part x) (name_in part y))

-- not: one for which an entry is up to another of its name that begins before it
pub is_upto_one : (part : List ℕ) (x y : ℕ) → One (upto part x y)
is_upto_one part x y = one (upto part x y)

-- not: one for which a name comes before itself, or before one that it begins with
pub ascends_one : (part : List ℕ) (x y : ℕ) → One (ascends part x y)
ascends_one part x y = one (ascends part x y)
