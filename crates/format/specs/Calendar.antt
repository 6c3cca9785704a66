-- The calendar that the ticks of a DateTime count in: the Gregorian one, from the year 1 on, and the ticks of Spec 4.11. No contract goes by it:
-- proofs/LastTick.antt computes by it which moments the first and the last tick are. Of what is no moment, as month 13, it says nothing of use.
use Rattle.std.specs.Prelude.{ℕ, zero, suc, ◌+◌, ◌-◌, ◌*◌, ◌%◌, Bool, not, ◌&&◌, ◌||◌, cond, List, [], ◌∷◌, take, eqb}

-- every fourth year, but of the hundredth ones only every fourth
abbrev pub is_leap : ℕ → Bool
is_leap year = eqb (year % 4) 0 && (not (eqb (year % 100) 0) || eqb (year % 400) 0)

-- the days of each month
abbrev pub months_of : ℕ → List ℕ
months_of year = 31 ∷ cond (is_leap year) 29 28 ∷ 31 ∷ 30 ∷ 31 ∷ 30 ∷ 31 ∷ 31 ∷ 30 ∷ 31 ∷ 30 ∷ 31 ∷ []

abbrev pub sum : List ℕ → ℕ
sum [] = 0
sum (n ∷ ns) = n + sum ns

-- the days of the years from 1 to this one, and of this one too
abbrev pub days_through : ℕ → ℕ
days_through zero = 0
days_through (suc year) = sum (months_of (suc year)) + days_through year

-- the days from 0001-01-01 on that are over when this day begins; years, months and days count from 1
abbrev pub days_to : ℕ → ℕ → ℕ → ℕ
days_to year month day = days_through (year - 1) + sum (take (month - 1) (months_of year)) + (day - 1)

-- the ticks that are over at a moment; a second has ten million of them, and `tick` counts those within the second
abbrev pub ticks_at : ℕ → ℕ → ℕ → ℕ → ℕ → ℕ → ℕ → ℕ
ticks_at year month day hour minute second tick =
    days_to year month day * 864000000000 + hour * 36000000000 + minute * 600000000 + second * 10000000 + tick
