-- What the definitions come to on small parts, computed.
use Prim.Native.Nat.{ℕ, ◌+◌, ◌*◌}
use mathlib.Core.Path.{◌≡◌, refl}
use mathlib.Core.Bool.{true, false}
use mathlib.Core.List.{List, [], ◌∷◌}
use Rattle.text.specs.Equal.{equal}
use Rattle.entries.specs.Entry.{bytes_at, half_at, mark_of, entry_of, bytes_in}
use Rattle.entries.specs.Least.{is_first, is_twin, least_of, least}

-- "ab", "b", "ab", "a", "ab", and names that only a byte in the middle tells apart: "ayb", "axb"
abbrev pub part : List ℕ
part = 97 ∷ 98 ∷ 98 ∷ 97 ∷ 98 ∷ 97 ∷ 97 ∷ 98 ∷ 97 ∷ 121 ∷ 98 ∷ 97 ∷ 120 ∷ 98 ∷ []

-- of a mark, a length, and where it begins
abbrev pub of : ℕ → ℕ → ℕ → ℕ
of m n p = (m * 16777216 + n) * 16777216 + p

abbrev pub ab : ℕ
ab = of 18 2 0

abbrev pub b : ℕ
b = of 2 1 2

abbrev pub ab₂ : ℕ
ab₂ = of 18 2 3

abbrev pub a : ℕ
a = of 1 1 5

abbrev pub ab₃ : ℕ
ab₃ = of 18 2 6

abbrev pub ayb : ℕ
ayb = of 402 3 8

abbrev pub axb : ℕ
axb = of 386 3 11

-- the entries of these names; of an empty one, with no byte; of one that ends before it begins; of one past the end
entries : entry_of part 0 2 ∷ entry_of part 2 3 ∷ entry_of part 3 5 ∷ entry_of part 8 11 ∷ entry_of part 14 14 ∷ entry_of part 3 2 ∷ entry_of part 13 15 ∷ []
    ≡ ab ∷ b ∷ ab₂ ∷ ayb ∷ 14 ∷ 0 ∷ 0 ∷ []
unfolding entry_of mark_of half_at
entries = refl

-- the bytes of an entry; of one that does not stand in the part
bytes : bytes_in part b ∷ bytes_in part axb ∷ bytes_in part (axb + 1) ∷ bytes_in part 14 ∷ [] ≡ (98 ∷ []) ∷ (97 ∷ 120 ∷ 98 ∷ []) ∷ [] ∷ [] ∷ []
unfolding bytes_at
bytes = refl

-- the first of a name is no twin, and no entry is its own
twins : is_twin part (ab₂ ∷ b ∷ ab ∷ []) ab ∷ is_twin part (ab₂ ∷ b ∷ ab ∷ []) ab₂ ∷ is_twin part (b ∷ b ∷ []) b ∷ [] ≡ false ∷ true ∷ false ∷ []
unfolding bytes_at equal is_first is_twin
twins = refl

-- none, though an entry is there twice; the second of one name; of three the second; of two names the one that comes again first; no entry
leasts :
    least part (b ∷ ab ∷ a ∷ a ∷ []) ∷ least part (ab₂ ∷ b ∷ ab ∷ a ∷ []) ∷ least part (ab₃ ∷ ab ∷ ab₂ ∷ [])
    ∷ least part (ab₃ ∷ of 2 1 4 ∷ b ∷ ab ∷ []) ∷ least part [] ∷ []
    ≡ 16777216 ∷ 3 ∷ 3 ∷ 4 ∷ 16777216 ∷ []
unfolding bytes_at equal is_first is_twin least_of
leasts = refl

-- the mark of a name of five bytes, of one of four, and of bytes above 127: lower halves, the last one lowest
marks : mark_of (1 ∷ 2 ∷ 3 ∷ 4 ∷ 5 ∷ []) 0 5 ∷ mark_of (1 ∷ 2 ∷ 3 ∷ 4 ∷ 5 ∷ []) 0 4 ∷ mark_of (195 ∷ 169 ∷ []) 0 2 ∷ mark_of (97 ∷ []) 1 1 ∷ []
    ≡ 9029 ∷ 4660 ∷ 57 ∷ 0 ∷ []
unfolding mark_of half_at
marks = refl
