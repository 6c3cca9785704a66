-- What the definitions come to on small tables, computed.
use Prim.Native.Nat.{ℕ, ◌+◌, ◌*◌}
use mathlib.Core.Path.{◌≡◌, refl}
use mathlib.Core.Bool.{true, false}
use mathlib.Core.List.{List, [], ◌∷◌}
use Rattle.tables.specs.Fit.{all_fit}
use Rattle.tables.specs.Second.{smallest, second}

-- "ab", "b", "ab", "a", "ab", and "qb", whose key is that of "ab"
abbrev part : List ℕ
part = 97 ∷ 98 ∷ 98 ∷ 97 ∷ 98 ∷ 97 ∷ 97 ∷ 98 ∷ 113 ∷ 98 ∷ []

-- of a mark, a length, and where it begins
abbrev of : ℕ → ℕ → ℕ → ℕ
of m n p = (m * 16777216 + n) * 16777216 + p

abbrev ab : ℕ
ab = of 18 2 0

abbrev b : ℕ
b = of 2 1 2

abbrev ab₂ : ℕ
ab₂ = of 18 2 3

abbrev a : ℕ
a = of 1 1 5

abbrev ab₃ : ℕ
ab₃ = of 18 2 6

abbrev qb : ℕ
qb = of 18 2 8

-- one byte further on, and so past the end
abbrev past : ℕ
past = of 18 2 9

-- up to the end of the part; one byte past it, by where it begins and by how long it is; an empty name at the end, and one past it; no entry
fitting : all_fit part (ab ∷ qb ∷ []) ∷ all_fit part (ab ∷ past ∷ []) ∷ all_fit part (of 18 3 8 ∷ ab ∷ []) ∷ all_fit part (10 ∷ []) ∷ all_fit part (11 ∷ [])
    ∷ all_fit part [] ∷ []
    ≡ true ∷ false ∷ false ∷ true ∷ false ∷ true ∷ []
unfolding all_fit
fitting = refl

-- none; one; two; three, in any order; the first of them twice, and the second twice
seconds : second [] ∷ second (ab ∷ []) ∷ second (ab ∷ ab₂ ∷ []) ∷ second (ab₃ ∷ ab ∷ ab₂ ∷ []) ∷ second (ab₂ ∷ ab₃ ∷ ab ∷ [])
    ∷ second (ab ∷ ab₂ ∷ ab ∷ []) ∷ second (ab₂ ∷ ab ∷ ab₂ ∷ []) ∷ []
    ≡ 16777216 ∷ 16777216 ∷ 3 ∷ 3 ∷ 3 ∷ 3 ∷ 3 ∷ []
unfolding smallest second
seconds = refl
