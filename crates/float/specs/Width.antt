-- A float of one width in the other, and an integer as a float (document 01, "Places, views and values"). `of_bits` and `to_bits` of the library
-- go from a pattern to the number that it stands for, and back; they know one NaN only, so a NaN goes by its bits.
use Rattle.std.specs.Prelude.{ℕ, suc, ◌+◌, ◌*◌, ◌/◌, ◌%◌, ◌^◌, Bool, cond, leb, ℤ, pos, negsuc}
use Rattle.std.specs.Float.{binary32, binary64}
use Rattle.std.specs.Float.Ieee.{of_bits, to_bits, of_int, nan_bits}

abbrev pub is_nan32 : ℕ → Bool
is_nan32 b = nan_bits binary32 b

abbrev pub is_nan64 : ℕ → Bool
is_nan64 b = nan_bits binary64 b

-- the sign is kept, the exponent field is all ones, and the fraction moves up 29 bits
abbrev pub widen_nan : ℕ → ℕ
widen_nan b = b / 2 ^ 31 * 2 ^ 63 + 2047 * 2 ^ 52 + b % 2 ^ 23 * 2 ^ 29

unfoldable pub widen : ℕ → ℕ
widen b = cond (is_nan32 b) (widen_nan b) (to_bits binary64 (of_bits binary32 b))

-- of a Float64 that Float32 holds
unfoldable pub narrow : ℕ → ℕ
narrow b = to_bits binary32 (of_bits binary64 b)

-- an integer from -2^53 to 2^53
abbrev pub is_exact : ℤ → Bool
is_exact (pos n) = leb n (2 ^ 53)
is_exact (negsuc n) = leb (suc n) (2 ^ 53)

unfoldable pub of_integer : ℤ → ℕ
of_integer z = to_bits binary64 (of_int binary64 z)
