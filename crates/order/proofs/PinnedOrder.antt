-- What the definitions come to on small parts, computed.
use Prim.Native.Nat.{ℕ, ◌+◌, ◌*◌}
use mathlib.Core.Path.{◌≡◌, refl}
use mathlib.Core.List.{List, [], ◌∷◌}
use Rattle.text.specs.Equal.{equal}
use Rattle.entries.specs.Entry.{bytes_at}
use Rattle.compare.specs.Order.{order, upto}
use Rattle.entries.specs.Least.{is_first, is_twin, least_of}
use Rattle.order.specs.Arranged.{before, kept, inserted, ordered, settled, arranged, afterwards, done}
use Rattle.std.proofs.Common.{None}

-- "ab", "b", "ab", "a", "ab", and names that only a byte in the middle tells apart: "ayb", "axb"
abbrev part : List ℕ
part = 97 ∷ 98 ∷ 98 ∷ 97 ∷ 98 ∷ 97 ∷ 97 ∷ 98 ∷ 97 ∷ 121 ∷ 98 ∷ 97 ∷ 120 ∷ 98 ∷ []

-- of a mark, a length, and where it begins
abbrev of : ℕ → ℕ → ℕ → ℕ
of m n p = (m * 16777216 + n) * 16777216 + p

abbrev ab : ℕ
ab = of 18 2 0

abbrev b : ℕ
b = of 2 1 2

abbrev ab₂ : ℕ
ab₂ = of 18 2 3

abbrev a : ℕ
a = of 1 1 5

abbrev ab₃ : ℕ
ab₃ = of 18 2 6

abbrev ayb : ℕ
ayb = of 402 3 8

abbrev axb : ℕ
axb = of 386 3 11

-- what begins at the least or behind it goes, whatever its name
keeps : kept part (ab₂ ∷ b ∷ ab ∷ a ∷ []) ∷ kept part (b ∷ axb ∷ ab ∷ []) ∷ [] ≡ (b ∷ ab ∷ []) ∷ (b ∷ axb ∷ ab ∷ []) ∷ []
unfolding bytes_at equal is_first is_twin least_of before
keeps = refl

orderings : ordered part (ayb ∷ b ∷ ab₂ ∷ axb ∷ a ∷ ab ∷ b ∷ []) ≡ a ∷ b ∷ b ∷ ab ∷ ab₂ ∷ axb ∷ ayb ∷ []
unfolding bytes_at order upto inserted ordered
orderings = refl

-- none asked for; with no twin; with one; three of one name
arrangements : arranged part (b ∷ ab ∷ []) 0
    ∷ arranged part (b ∷ ab ∷ a ∷ 7 ∷ 8 ∷ 9 ∷ 10 ∷ []) 3
    ∷ arranged part (ab₂ ∷ b ∷ ab ∷ a ∷ 5 ∷ 6 ∷ 7 ∷ 8 ∷ 9 ∷ []) 4
    ∷ arranged part (ab₃ ∷ ab₂ ∷ ab ∷ 4 ∷ 5 ∷ 6 ∷ []) 3
    ∷ []
    ≡ afterwards (done 0 16777216) (b ∷ ab ∷ [])
    ∷ afterwards (done 3 16777216) (a ∷ b ∷ ab ∷ 0 ∷ 0 ∷ 0 ∷ 10 ∷ [])
    ∷ afterwards (done 2 3) (b ∷ ab ∷ 0 ∷ 0 ∷ 0 ∷ 0 ∷ 0 ∷ 0 ∷ 9 ∷ [])
    ∷ afterwards (done 1 3) (ab ∷ 0 ∷ 0 ∷ 0 ∷ 0 ∷ 0 ∷ [])
    ∷ []
unfolding bytes_at equal order upto is_first is_twin least_of before inserted ordered settled arranged
arrangements = refl

-- one more than there is room for
refused : arranged part (b ∷ ab ∷ []) 2 ∷ arranged part (b ∷ ab ∷ a ∷ 7 ∷ 8 ∷ 9 ∷ 10 ∷ []) 4 ∷ arranged part [] 1 ∷ []
    ≡ afterwards None (b ∷ ab ∷ []) ∷ afterwards None (b ∷ ab ∷ a ∷ 7 ∷ 8 ∷ 9 ∷ 10 ∷ []) ∷ afterwards None [] ∷ []
unfolding arranged
refused = refl
