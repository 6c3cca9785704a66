-- The number that a pattern stands for, which the library has as sign, digits and exponent: widening and narrowing keep it, the sign of a zero too, and no two
-- patterns stand for the same one.
use mathlib.Core.Path.{◌≡◌, refl, sym, ap, ◌∙◌}
use Prim.Native.Nat.{ℕ, ◌^◌, ◌<◌}
use native.Mathlib.Omega.{arith}
use mathlib.Core.Bool.{true, false, not}
use lib.Dec.{T}
use lib.Ieee.{binary32, binary64, of_bits, to_bits, is_nan, nan_bits}
use lib.Ieee.Bits.{to_bits-of_bits, nan_bits_is}
use Rattle.float.specs.Rule.{holds}
use Rattle.float.specs.Width.{is_nan32, is_nan64, widen, narrow}
use Rattle.float.proofs.Held.{to_not}
use Rattle.float.proofs.Laws.{back, forth}

-- a Float32 that is no NaN, widened, stands for the same number
pub widening_keeps : (b : ℕ) → b < 2 ^ 32 → is_nan32 b ≡ false → of_bits binary64 (widen b) ≡ of_bits binary32 b
widening_keeps = forth

-- so does a Float64 that Float32 holds, in Float32
pub narrowing_keeps : (b : ℕ) → b < 2 ^ 64 → is_nan64 b ≡ false → holds b ≡ true → of_bits binary32 (narrow b) ≡ of_bits binary64 b
narrowing_keeps = back

-- two patterns that are no NaNs and stand for one number are the same
pub numbers_apart : (a b : ℕ) → a < 2 ^ 64 → b < 2 ^ 64 → is_nan64 a ≡ false → is_nan64 b ≡ false → of_bits binary64 a ≡ of_bits binary64 b → a ≡ b
numbers_apart a b h k m n e = sym (to_bits-of_bits binary64 a h (good a m)) ∙ ap (to_bits binary64) e ∙ to_bits-of_bits binary64 b k (good b n)
  where
    good : (c : ℕ) → is_nan64 c ≡ false → T (not (is_nan (of_bits binary64 c)))
    good c i = to_not (is_nan (of_bits binary64 c)) (sym (nan_bits_is binary64 c) ∙ i)

-- among them the two zeros
pub zeros_apart : of_bits binary64 0 ≡ of_bits binary64 (2 ^ 63) → ⊥
unfolding nan_bits
zeros_apart e = let z : 0 ≡ 2 ^ 63 = numbers_apart 0 (2 ^ 63) (omega arith) (omega arith) refl refl e in omega arith
