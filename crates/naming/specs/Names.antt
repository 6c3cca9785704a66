-- The names of the object whose frames stand from `at` on in the list s: one that is noted; and at the object's end, one that stands there twice.
use Rattle.std.specs.Prelude.{ℕ, ◌+◌, ◌-◌, cond, List, ◌++◌, length, take, drop, ltb, Result}
use Rattle.frames.specs.declared.Refusal.TheVariants.{NameUsed}
use Rattle.frames.specs.declared.Refused.{Refused}
use Rattle.frames.specs.Writer.{refused_at}
use Rattle.entries.specs.Entry.{entry_of}
use Rattle.entries.specs.Least.{lesser}
use Rattle.select.specs.declared.Source.TheVariants as S
use Rattle.select.specs.Source.{Searched}
use Rattle.notes.specs.declared.Notes.{Notes}
use Rattle.notes.specs.Notes.{held_in, Noting, added, told}
use Rattle.used.specs.Place.{frame_place}
use Rattle.settle.specs.declared.Measured.{Measured}

-- one that stands from b to e
abbrev pub noted_by : List ℕ → ℕ → List ℕ → Notes → ℕ → ℕ → Noting
noted_by s at t notes b e = added (drop at s) t notes (entry_of (drop at s) (b - at) (e - at))

-- a twin that begins at g is refused; 16777216 if there is none
abbrev pub twin_measured : ℕ → List ℕ → ℕ → ℕ → Result Measured Refused → Result Measured Refused
twin_measured d s at g m = cond (ltb g 16777216) (refused_at NameUsed (lesser at (length s) + frame_place d (drop at s) g)) m

-- how many of `total` numbers are lent for the search: one for each byte up to the last frame, which is more than there are names; and those that are held
unfoldable pub room_for : ℕ → ℕ → ℕ → ℕ
room_for total held reach = cond (ltb held reach) (lesser total reach) (lesser total held)

-- where the first twin begins, and what the numbers that were lent hold then
abbrev pub twin_by : ℕ → List ℕ → ℕ → List ℕ → Notes → ℕ → Searched
twin_by d s at t notes reach = told (S.Frames d (reach - 1)) (drop at s) (take (room_for (length t) (held_in notes) reach) t) notes

-- the answer, and what the table holds afterwards
pub record Ending : Type 0 where
  pub answer : Result Measured Refused
  pub table : List ℕ

abbrev pub ending : Result Measured Refused → List ℕ → Ending
ending m t = record { answer = m; table = t }

-- the names were noted of the frames that begin less than `reach` behind the first; m is what was measured
unfoldable pub ended_by : ℕ → List ℕ → ℕ → List ℕ → Notes → ℕ → Result Measured Refused → Ending
ended_by d s at t notes reach m =
    cond (ltb 0 reach)
    (ending (twin_measured d s at (twin_by d s at t notes reach).answer m)
    ((twin_by d s at t notes reach).table ++ drop (room_for (length t) (held_in notes) reach) t))
    (ending m t)
