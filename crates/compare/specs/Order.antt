-- The order of names, and of the entries of a table: by their names, and of one name by where they begin.
use Rattle.std.specs.Prelude.{ℕ, Bool, List}
use Rattle.std.specs.declared.cmp.Ordering.{Ordering}
use Rattle.std.specs.Ordering.{nat_cmp, ordering_then, is_le, is_lt}
use Rattle.std.specs.Cmp.Lexicographic.{slice_cmp}
use Rattle.entries.specs.Entry.{bytes_in, name_in}

-- by the first number in which they differ; what ends first is less
unfoldable pub order : List ℕ → List ℕ → Ordering
order s t = slice_cmp nat_cmp s t

abbrev pub order_in : List ℕ → ℕ → ℕ → Ordering
order_in s x y = ordering_then (order (name_in s x) (name_in s y)) (nat_cmp x y)

unfoldable pub upto : List ℕ → ℕ → ℕ → Bool
upto s x y = is_le (order_in s x y)

-- ---- by the bytes alone

-- the name of x comes before that of y
unfoldable pub ascends : List ℕ → ℕ → ℕ → Bool
ascends s x y = is_lt (order (bytes_in s x) (bytes_in s y))
