-- What the definitions come to on small parts, computed.
use Prim.Native.Nat.{ℕ, ◌+◌, ◌*◌}
use mathlib.Core.Path.{◌≡◌, refl}
use mathlib.Core.List.{List, [], ◌∷◌}
use Rattle.std.proofs.Common.{Some, None}
use Rattle.text.specs.Equal.{equal}
use Rattle.entries.specs.Entry.{bytes_at}
use Rattle.entries.specs.Least.{is_first, is_twin, least_of}
use Rattle.tables.specs.Fit.{all_fit}
use Rattle.divide.specs.Divided.{afterwards, divided}

-- "ab", "b", "ab", "a", "ab", and "qb", whose key is that of "ab"
abbrev part : List ℕ
part = 97 ∷ 98 ∷ 98 ∷ 97 ∷ 98 ∷ 97 ∷ 97 ∷ 98 ∷ 113 ∷ 98 ∷ []

-- of a mark, a length, and where it begins
abbrev of : ℕ → ℕ → ℕ → ℕ
of m n p = (m * 16777216 + n) * 16777216 + p

abbrev ab : ℕ
ab = of 18 2 0

abbrev b : ℕ
b = of 2 1 2

abbrev ab₂ : ℕ
ab₂ = of 18 2 3

abbrev a : ℕ
a = of 1 1 5

abbrev ab₃ : ℕ
ab₃ = of 18 2 6

abbrev qb : ℕ
qb = of 18 2 8

-- one byte further on, and so past the end
abbrev past : ℕ
past = of 18 2 9

-- none asked for; with no twin, though two have one key; with one; three of one name; an entry twice; a twin behind those asked for
done : divided part (b ∷ ab ∷ []) 0
    ∷ divided part (b ∷ qb ∷ ab ∷ 7 ∷ []) 3
    ∷ divided part (ab₂ ∷ b ∷ ab ∷ a ∷ 9 ∷ []) 4
    ∷ divided part (ab₃ ∷ ab₂ ∷ ab ∷ []) 3
    ∷ divided part (b ∷ ab ∷ b ∷ []) 3
    ∷ divided part (ab ∷ b ∷ ab₂ ∷ []) 2
    ∷ []
    ≡ afterwards (Some 16777216) (b ∷ ab ∷ [])
    ∷ afterwards (Some 16777216) (0 ∷ 0 ∷ 0 ∷ 7 ∷ [])
    ∷ afterwards (Some 3) (0 ∷ 0 ∷ 0 ∷ 0 ∷ 9 ∷ [])
    ∷ afterwards (Some 3) (0 ∷ 0 ∷ 0 ∷ [])
    ∷ afterwards (Some 16777216) (0 ∷ 0 ∷ 0 ∷ [])
    ∷ afterwards (Some 16777216) (0 ∷ 0 ∷ ab₂ ∷ [])
    ∷ []
unfolding bytes_at equal is_first is_twin least_of all_fit divided
done = refl

-- one more than there are; one that does not fit; and one that does not fit behind those asked for
unfit : divided part (b ∷ ab ∷ []) 3 ∷ divided part (b ∷ past ∷ ab ∷ ab₂ ∷ []) 4 ∷ divided part (b ∷ ab ∷ past ∷ []) 2 ∷ []
    ≡ afterwards None (b ∷ ab ∷ []) ∷ afterwards None (b ∷ past ∷ ab ∷ ab₂ ∷ []) ∷ afterwards (Some 16777216) (0 ∷ 0 ∷ past ∷ []) ∷ []
unfolding bytes_at equal is_first is_twin least_of all_fit divided
unfit = refl
