-- What the definitions come to on a small list, computed. (Where a frame stands is pinned in `used`.)
use Rattle.std.specs.Prelude.{Result}
use Prim.Native.Nat.{ℕ, ◌+◌, ◌*◌}
use mathlib.Core.Path.{◌≡◌, refl}
use mathlib.Core.List.{List, [], ◌∷◌}
use lib.ListN.{drop}
use Rattle.text.specs.Equal.{equal}
use Rattle.frames.specs.declared.Refusal.TheVariants.{NameUsed}
use Rattle.frames.specs.declared.Refused.{Refused}
use Rattle.frames.specs.Writer.{refused_at}
use Rattle.entries.specs.Entry.{bytes_at, half_at, mark_of, entry_of}
use Rattle.entries.specs.Least.{is_first, is_twin, least_of}
use Rattle.notes.specs.declared.Notes.TheVariants.{Few, Rising}
use Rattle.notes.specs.Notes.{noting}
use Rattle.used.specs.Place.{frame_place}
use Rattle.naming.specs.Names.{noted_by, twin_measured, room_for, ending, ended_by}
use Rattle.settle.specs.declared.Measured.{Measured}
use Rattle.settle.specs.Made.{measured}

-- an object with the names "a", "b", "a", whose frames stand from 1 on
abbrev list : List ℕ
list = 2 ∷ 1 ∷ 1 ∷ 97 ∷ 1 ∷ 1 ∷ 98 ∷ 1 ∷ 1 ∷ 97 ∷ 0 ∷ []

-- the entry of a mark, and of where a name of one byte begins behind the 1
abbrev of : ℕ → ℕ → ℕ
of m p = (m * 16777216 + 1) * 16777216 + p

abbrev read : Result Measured Refused
read = measured 11 2 9 1

-- the larger of the two last, if there is so much
rooms : room_for 10 3 7 ∷ room_for 10 8 7 ∷ room_for 5 3 7 ∷ room_for 4 8 7 ∷ [] ≡ 7 ∷ 8 ∷ 5 ∷ 4 ∷ []
unfolding room_for
rooms = refl

-- positions are the list's, places in an entry count from the object's first frame
notes : noted_by list 1 (7 ∷ 8 ∷ []) (Few 0) 3 4 ∷ noted_by list 1 (7 ∷ 8 ∷ []) (Few 1) 6 7 ∷ []
    ≡ noting (Few 1) (of 1 2 ∷ 8 ∷ []) ∷ noting (Few 2) (7 ∷ of 2 5 ∷ []) ∷ []
unfolding bytes_at half_at mark_of entry_of
notes = refl

-- 16777216 is none
twins : twin_measured 2 list 1 8 read ∷ twin_measured 2 list 1 16777216 read ∷ []
    ≡ refused_at NameUsed (1 + frame_place 2 (drop 1 list) 8) ∷ read ∷ []
twins = refl

-- all three noted; the first two; none; and names that ascend
ends : ended_by 2 list 1 (of 1 2 ∷ of 2 5 ∷ of 1 8 ∷ []) (Few 3) 7 read ∷ ended_by 2 list 1 (of 1 2 ∷ of 2 5 ∷ 9 ∷ []) (Few 2) 4 read
    ∷ ended_by 2 list 1 (7 ∷ []) (Few 0) 0 read ∷ ended_by 2 list 1 (7 ∷ []) (Rising (of 2 5)) 4 read ∷ []
    ≡ ending (refused_at NameUsed (1 + frame_place 2 (drop 1 list) 8)) (of 1 2 ∷ of 2 5 ∷ of 1 8 ∷ []) ∷ ending read (of 1 2 ∷ of 2 5 ∷ 9 ∷ [])
    ∷ ending read (7 ∷ []) ∷ ending read (7 ∷ []) ∷ []
unfolding equal bytes_at is_first is_twin least_of room_for ended_by
ends = refl
