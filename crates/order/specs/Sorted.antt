-- What is said of tables in order: each entry is up to all behind it.
use Rattle.std.specs.Prelude.{ℕ, ◌≡◌, true, List, [], ◌∷◌}
use Rattle.compare.specs.Order.{upto}

-- x is up to each of them
abbrev pub Below : List ℕ → ℕ → List ℕ → Type 0
Below s x [] = Unit {0}
Below s x (y ∷ t) = (upto s x y ≡ true) × Below s x t

abbrev pub Sorted : List ℕ → List ℕ → Type 0
Sorted s [] = Unit {0}
Sorted s (x ∷ t) = Below s x t × Sorted s t
