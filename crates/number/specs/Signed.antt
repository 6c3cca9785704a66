-- Signed numbers (document 01, "Kinds and payloads").
use Rattle.std.specs.Prelude.{ℕ, ◌-◌, ◌^◌, cond, ltb, ℤ, pos, negsuc}

-- kind 09: minus (M plus 1), which the library calls `negsuc`
abbrev pub minus_plus_one : ℕ → ℤ
minus_plus_one m = negsuc m

-- two's complement of 64 bits
abbrev pub from_twos : ℕ → ℤ
from_twos m = cond (ltb m (2 ^ 63)) (pos m) (negsuc (2 ^ 64 - 1 - m))

abbrev pub to_twos : ℤ → ℕ
to_twos (pos n) = n
to_twos (negsuc n) = 2 ^ 64 - 1 - n
