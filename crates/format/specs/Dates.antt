-- Dates that exist (document 02, M-105).
use Rattle.std.specs.Prelude.{ℕ, Bool, false, not, ltb, ℤ, pos, negsuc}
use Rattle.number.specs.Signed.{from_twos}

-- 9999-12-31 23:59:59.9999999 (Spec 4.11): proofs/LastTick.antt computes it by the calendar
abbrev pub last_tick : ℕ
last_tick = 3155378975999999999

-- neither below 0 nor above the last tick: `negsuc m` is minus (m plus 1)
unfoldable pub is_date : ℤ → Bool
is_date (pos n) = not (ltb last_tick n)
is_date (negsuc m) = false

-- of eight bytes, by the number that they are as unsigned
abbrev pub is_no_date : ℕ → Bool
is_no_date m = not (is_date (from_twos m))
