-- The last tick of document 02 is the last moment of the year 9999 that Spec 4.11 names, and 0 the first of the year 1: computed by the calendar
-- (specs/Calendar.antt), whose months and years are pinned too.
use Prim.Native.Nat.{ℕ, ◌+◌, ◌-◌}
use mathlib.Core.Path.{◌≡◌, refl}
use mathlib.Core.List.{List, [], ◌∷◌, map}
use Rattle.format.specs.Dates.{last_tick}
use Rattle.format.specs.Calendar.{days_to, ticks_at}

-- 0001-01-01 00:00:00.0000000
pub first_moment : ticks_at 1 1 1 0 0 0 0 ≡ 0
first_moment = refl

-- 9999-12-31 23:59:59.9999999, and 10000-01-01 00:00:00.0000000, one tick later
pub last_moment : ticks_at 9999 12 31 23 59 59 9999999 ≡ last_tick
last_moment = refl

pub next_moment : ticks_at 10000 1 1 0 0 0 0 ≡ last_tick + 1
next_moment = refl

-- ---- the calendar

-- how many days of a year are over on the first of each month: of 2023, of 2024, a leap year, of 1900, which is none, and of 2000, which is one
abbrev over : ℕ → List ℕ
over year = map (λ month. days_to year month 1 - days_to year 1 1) (1 ∷ 2 ∷ 3 ∷ 4 ∷ 5 ∷ 6 ∷ 7 ∷ 8 ∷ 9 ∷ 10 ∷ 11 ∷ 12 ∷ [])

abbrev common : List ℕ
common = 0 ∷ 31 ∷ 59 ∷ 90 ∷ 120 ∷ 151 ∷ 181 ∷ 212 ∷ 243 ∷ 273 ∷ 304 ∷ 334 ∷ []

abbrev leap : List ℕ
leap = 0 ∷ 31 ∷ 60 ∷ 91 ∷ 121 ∷ 152 ∷ 182 ∷ 213 ∷ 244 ∷ 274 ∷ 305 ∷ 335 ∷ []

pub months : map over (2023 ∷ 2024 ∷ 1900 ∷ 2000 ∷ []) ≡ common ∷ leap ∷ common ∷ leap ∷ []
months = refl

-- the years begin that others count from, 1601 and 1970; and 2026-11-16 12:34:56.7890123
pub moments : ticks_at 1601 1 1 0 0 0 0 ∷ ticks_at 1970 1 1 0 0 0 0 ∷ ticks_at 2026 11 16 12 34 56 7890123 ∷ []
    ≡ 504911232000000000 ∷ 621355968000000000 ∷ 639304292967890123 ∷ []
moments = refl
