-- A float in the other width and back: what Float32 holds goes there and comes back as the same bits, and every Float32 but a NaN is held. The float rule is
-- `Held`; the rest is what the library knows of bits and numbers.
use mathlib.Core.Path.{◌≡◌, sym, ap, ◌∙◌, subst}
use Prim.Native.Nat.{ℕ, ◌^◌, ◌<◌}
use mathlib.Core.Bool.{Bool, true, false, not, ◌&&◌, ◌||◌, cond}
use lib.Dec.{T, eqb, eqb→eq}
use lib.Ieee.{Float, binary32, binary64, of_bits, to_bits, fits, is_nan, nan_bits}
use lib.Ieee.Bits.{is_false, of_bits-to_bits, to_bits-lt, of_bits-fits, to_bits-of_bits, nan_bits_is}
use lib.Ieee.Fits.{and_l, and_r, fits_widens}
use Rattle.float.specs.Rule.{exponent, fraction, holds_at, holds}
use Rattle.float.specs.Width.{is_nan32, is_nan64, widen_nan, widen, narrow}
use Rattle.float.proofs.Held.{to_T, to_not, same_exponent, held_fits, fits_held}

nan_fields : (e f : ℕ) → T (eqb e 2047 && not (eqb f 0)) → holds_at e f ≡ false
nan_fields e f t =
    ap (λ (x : ℕ). holds_at x f) (eqb→eq e 2047 (and_l (eqb e 2047) (not (eqb f 0)) t))
    ∙ ap (λ (z : Bool). z && true || false) (is_false (eqb f 0) (and_r (eqb e 2047) (not (eqb f 0)) t))

pub holds_nan : (b : ℕ) → is_nan64 b ≡ true → holds b ≡ false
unfolding holds nan_bits
holds_nan b n = nan_fields (exponent b) (fraction b) (subst (λ (e : ℕ). T (eqb e 2047 && not (eqb (fraction b) 0))) (same_exponent b) (to_T (is_nan64 b) n))

-- ---- a Float64 that Float32 holds
module _ (b : ℕ) (h : b < 2 ^ 64) (n : is_nan64 b ≡ false) (k : holds b ≡ true) where
  pub narrow_lt : narrow b < 2 ^ 32
  unfolding narrow
  narrow_lt = to_bits-lt binary32 (of_bits binary64 b) (held_fits b k)

  pub back : of_bits binary32 (narrow b) ≡ of_bits binary64 b
  unfolding narrow
  back = of_bits-to_bits binary32 (of_bits binary64 b) (held_fits b k)

  pub narrow_nan : is_nan32 (narrow b) ≡ false
  narrow_nan = nan_bits_is binary32 (narrow b) ∙ ap is_nan back ∙ sym (nan_bits_is binary64 b) ∙ n

  pub widen_narrow : widen (narrow b) ≡ b
  unfolding widen
  widen_narrow =
      ap (λ (t : Bool). cond t (widen_nan (narrow b)) (to_bits binary64 (of_bits binary32 (narrow b)))) narrow_nan
      ∙ ap (to_bits binary64) back
      ∙ to_bits-of_bits binary64 b h (to_not (is_nan (of_bits binary64 b)) (sym (nan_bits_is binary64 b) ∙ n))

-- ---- a Float32
module _ (b : ℕ) (h : b < 2 ^ 32) (n : is_nan32 b ≡ false) where
  widen_is : widen b ≡ to_bits binary64 (of_bits binary32 b)
  unfolding widen
  widen_is = ap (λ (t : Bool). cond t (widen_nan b) (to_bits binary64 (of_bits binary32 b))) n

  wide : T (fits binary64 (of_bits binary32 b))
  wide = fits_widens (of_bits binary32 b) (of_bits-fits binary32 b)

  pub forth : of_bits binary64 (widen b) ≡ of_bits binary32 b
  forth = ap (of_bits binary64) widen_is ∙ of_bits-to_bits binary64 (of_bits binary32 b) wide

  pub widen_lt : widen b < 2 ^ 64
  widen_lt = rw widen_is (to_bits-lt binary64 (of_bits binary32 b) wide)

  pub widen_nan_law : is_nan64 (widen b) ≡ false
  widen_nan_law = nan_bits_is binary64 (widen b) ∙ ap is_nan forth ∙ sym (nan_bits_is binary32 b) ∙ n

  pub widen_holds : holds (widen b) ≡ true
  widen_holds = fits_held (widen b) widen_nan_law (subst (λ (v : Float). T (fits binary32 v)) (sym forth) (of_bits-fits binary32 b))

  pub narrow_widen : narrow (widen b) ≡ b
  unfolding narrow
  narrow_widen = ap (to_bits binary32) forth ∙ to_bits-of_bits binary32 b h (to_not (is_nan (of_bits binary32 b)) (sym (nan_bits_is binary32 b) ∙ n))
