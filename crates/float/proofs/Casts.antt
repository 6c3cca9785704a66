-- Where the machine converts a float, and what it gives: the pattern is no NaN's, the other format holds the number, and an integer is one that
-- Float64 counts without a gap.
use mathlib.Core.Path.{◌≡◌, refl, sym, ap, ◌∙◌}
use Prim.Native.Nat.{ℕ, suc, ◌+◌, ◌*◌, ◌/◌, ◌%◌, ◌^◌, ◌≤◌}
use native.Mathlib.Omega.{arith}
use mathlib.Core.Bool.{Bool, true, false, not, ◌&&◌, cond}
use lib.Dec.{T}
use lib.IntN.{ℤ, pos, negsuc}
use lib.Ieee.{Float, nan, inf, fin, binary32, binary64, is_nan, nan_bits, of_bits, to_bits, of_int, round, fits}
use lib.Ieee.Back.{round_whole}
use lib.Ieee.Bits.{nan_bits_is, of_bits-fits}
use lib.Ieee.Exact.{HasValue}
use lib.Ieee.Fits.{and_i, fits_widens}
use borrow.Author.Tests.{le-leb, leb-true}
use mir.Syntax.{w64}
use mir.Val.{SFits, to_z, of_z}
use mir.ValLaws.{to_z-of_z}
use Rattle.std.proofs.Common.{Some, None, unsigned_abs}
use Rattle.float.specs.Rule.{holds}
use Rattle.float.specs.Width.{is_nan32, is_nan64, widen_nan, widen, narrow, is_exact, of_integer}
use Rattle.float.specs.Answer.{narrowed, exact}
use Rattle.float.proofs.Held.{to_not, held_fits}
use Rattle.float.proofs.Laws.{holds_nan}

-- ---- a Float32 that is a NaN, or is not
module _ (b : ℕ) (x : Bool) (e : x ≡ is_nan32 b) where
  pub nan_widened : (s f : ℕ) → s ≡ b / 2 ^ 31 → f ≡ b % 2 ^ 23 → x ≡ true → s * 2 ^ 63 + 2047 * 2 ^ 52 + f * 2 ^ 29 ≡ widen b
  unfolding widen
  nan_widened s f g k h = rw (g, k) (sym (ap (λ (t : Bool). cond t (widen_nan b) (to_bits binary64 (of_bits binary32 b))) (sym e ∙ h)))

  module _ (h : x ≡ false) where
    no_nan : is_nan32 b ≡ false
    no_nan = sym e ∙ h

    pub value_good : T (not (is_nan (of_bits binary32 b)))
    value_good = to_not (is_nan (of_bits binary32 b)) (sym (nan_bits_is binary32 b) ∙ no_nan)

    pub widens : T (fits binary64 (of_bits binary32 b) && not (is_nan (of_bits binary32 b)))
    widens = and_i (fits binary64 (of_bits binary32 b)) (not (is_nan (of_bits binary32 b))) (fits_widens (of_bits binary32 b) (of_bits-fits binary32 b)) value_good

    pub number_widened : to_bits binary64 (of_bits binary32 b) ≡ widen b
    unfolding widen
    number_widened = sym (ap (λ (t : Bool). cond t (widen_nan b) (to_bits binary64 (of_bits binary32 b))) no_nan)

-- ---- a Float64 that passed the rule's test, or did not
module _ (b : ℕ) (x : Bool) (e : x ≡ holds b) where
  module _ (h : x ≡ true) where
    held_good : is_nan64 b ≡ false
    held_good = go (is_nan64 b) (holds_nan b)
      where
        no : true ≡ false → ⊥
        no e = let z : ◌≡◌ {A = ℕ} 0 1 = cc in omega arith

        go : (t : Bool) → (t ≡ true → holds b ≡ false) → t ≡ false
        go true w = absurd (no (sym h ∙ e ∙ w refl))
        go false w = refl

    pub wide_bits_good : T (not (nan_bits binary64 b))
    wide_bits_good = to_not (nan_bits binary64 b) held_good

    pub wide_value_good : T (not (is_nan (of_bits binary64 b)))
    wide_value_good = to_not (is_nan (of_bits binary64 b)) (sym (nan_bits_is binary64 b) ∙ held_good)

    pub narrows : T (fits binary32 (of_bits binary64 b) && not (is_nan (of_bits binary64 b)))
    narrows = and_i (fits binary32 (of_bits binary64 b)) (not (is_nan (of_bits binary64 b))) (held_fits b (sym e ∙ h)) wide_value_good

    pub narrowed_to : Some (to_bits binary32 (of_bits binary64 b)) ≡ narrowed b
    unfolding narrow
    narrowed_to = sym (ap (λ (t : Bool). cond t (Some (narrow b)) None) (sym e ∙ h))

  pub narrowed_no : x ≡ false → None ≡ narrowed b
  narrowed_no h = sym (ap (λ (t : Bool). cond t (Some (narrow b)) None) (sym e ∙ h))

-- ---- an integer

valued : (x : Float) (s : Bool) (a c : ℕ) → HasValue x s a c → T (not (is_nan x))
unfolding is_nan
valued nan s a c h = h
valued (inf t) s a c h = tt
valued (fin t m e) s a c h = tt

is_exact_law : (z : ℤ) → unsigned_abs z ≤ 2 ^ 53 → is_exact z ≡ true
is_exact_law (pos n) h = le-leb n (2 ^ 53) h
is_exact_law (negsuc n) h = le-leb (suc n) (2 ^ 53) (omega arith)

exact_good : (z : ℤ) → is_exact z ≡ true → T (not (is_nan (of_int binary64 z)))
unfolding of_int
exact_good (pos n) e = valued (round binary64 false n 1) false n 1 (round_whole binary64 false n (leb-true n (2 ^ 53) e))
exact_good (negsuc n) e = valued (round binary64 true (suc n) 1) true (suc n) 1 (round_whole binary64 true (suc n) (leb-true (suc n) (2 ^ 53) e))

module _ (z : ℤ) (fit : SFits w64 z) (n : ℕ) (e : n ≡ unsigned_abs (to_z w64 (of_z w64 z))) (h : n ≤ 2 ^ 53) where
  same : to_z w64 (of_z w64 z) ≡ z
  same = to_z-of_z w64 z fit

  inside : is_exact z ≡ true
  inside = is_exact_law z (rw (e ∙ ap unsigned_abs same) at h)

  pub integer_good : T (not (is_nan (of_int binary64 (to_z w64 (of_z w64 z)))))
  integer_good = rw same (exact_good z inside)

  pub exact_bits : Some (to_bits binary64 (of_int binary64 (to_z w64 (of_z w64 z)))) ≡ exact z
  unfolding of_integer
  exact_bits = rw same (sym (ap (λ (t : Bool). cond t (Some (of_integer z)) None) inside))
