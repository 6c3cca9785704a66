-- What the definitions come to, computed.
use Prim.Native.Nat.{ℕ}
use mathlib.Core.Path.{◌≡◌, refl}
use mathlib.Core.Bool.{true, false}
use mathlib.Core.List.{List, [], ◌∷◌}
use Rattle.entries.specs.Entry.{bytes_at}
use Rattle.compare.specs.Order.{order, ascends}
use Rattle.notes.specs.declared.Notes.TheVariants.{Few, Rising, Many}
use Rattle.notes.specs.Notes.{rises_from, rises, held_in, noting, added}

-- "a", "b", "c", as entries with no mark
abbrev part : List ℕ
part = 97 ∷ 98 ∷ 99 ∷ []

abbrev a : ℕ
a = 16777216

abbrev b : ℕ
b = 16777217

abbrev c : ℕ
c = 16777218

rising : rises part [] ∷ rises part (b ∷ []) ∷ rises part (a ∷ b ∷ c ∷ []) ∷ rises part (a ∷ c ∷ b ∷ []) ∷ rises part (a ∷ a ∷ []) ∷ []
    ≡ true ∷ true ∷ true ∷ false ∷ false ∷ []
unfolding bytes_at order ascends rises_from
rising = refl

holding : held_in (Few 3) ∷ held_in (Rising 3) ∷ held_in Many ∷ [] ≡ 3 ∷ 0 ∷ 0 ∷ []
holding = refl

-- room in the table; a table that is full, and names that ascend, or do not; no table
adding : added part (a ∷ 7 ∷ []) (Few 1) b ∷ added part (a ∷ b ∷ []) (Few 2) c ∷ added part (a ∷ c ∷ []) (Few 2) b ∷ added part [] (Few 0) b ∷ []
    ≡ noting (Few 2) (a ∷ b ∷ []) ∷ noting (Rising c) (a ∷ b ∷ []) ∷ noting Many (a ∷ c ∷ []) ∷ noting (Rising b) [] ∷ []
unfolding bytes_at order ascends rises_from
adding = refl

-- the sixteenth, and the seventeenth in a table that has room for it
abbrev table : List ℕ
table = 1 ∷ 2 ∷ 3 ∷ 4 ∷ 5 ∷ 6 ∷ 7 ∷ 8 ∷ 9 ∷ 10 ∷ 11 ∷ 12 ∷ 13 ∷ 14 ∷ 15 ∷ 16 ∷ 17 ∷ []

sixteen : added part table (Few 15) a ∷ added part table (Few 16) a ∷ []
    ≡ noting (Few 16) (1 ∷ 2 ∷ 3 ∷ 4 ∷ 5 ∷ 6 ∷ 7 ∷ 8 ∷ 9 ∷ 10 ∷ 11 ∷ 12 ∷ 13 ∷ 14 ∷ 15 ∷ a ∷ 17 ∷ []) ∷ noting Many table ∷ []
unfolding bytes_at order ascends rises_from
sixteen = refl

-- behind one that comes before, and behind one that does not
behind : added part [] (Rising a) b ∷ added part [] (Rising b) a ∷ added part [] (Rising b) b ∷ added part [] Many b ∷ []
    ≡ noting (Rising b) [] ∷ noting Many [] ∷ noting Many [] ∷ noting Many [] ∷ []
unfolding bytes_at order ascends
behind = refl
