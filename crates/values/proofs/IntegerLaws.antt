-- Integers, by their M and their sign: signed, and as a double.
use Rattle.std.specs.Prelude.{Result, Err, Ok, Option, None, Some, ℤ, pos, negsuc}
use Prim.Native.Nat.{ℕ, suc, ◌^◌, ◌≤◌, ◌<◌}
use native.Mathlib.Omega.{arith}
use mathlib.Core.Path.{◌≡◌, refl, sym, ap, ◌∙◌}
use mathlib.Core.Bool.{Bool, true, false, cond}
use lib.Dec.{ltb}
use borrow.Author.Tests.{lt-ltb, le-ltb, ltb-false, lt-leb}
use Rattle.number.specs.Negative.{negative}
use Rattle.float.specs.Width.{is_exact, of_integer}
use Rattle.float.specs.Answer.{exact}
use Rattle.places.specs.Values.{double_of, signed_of}
use Rattle.places.specs.Values as sorts
use Rattle.places.specs.declared.ValueError.{ValueError}
use Rattle.places.specs.declared.ValueError.TheVariants as V
use Rattle.values.specs.Code.{integer_of}
use Rattle.std.specs.Option.{ok_or}

-- ---- signed

pub negative_signed : (t : Bool) (m : ℕ) → t ≡ true → (x : Option ℤ) → x ≡ negative m → ok_or x V.OutOfRange ≡ signed_of (sorts.whole (integer_of t m))
negative_signed t m e x i = rw (e, i) (at (ltb m (2 ^ 63)))
  where
    at : (t : Bool) → ok_or (cond t (Some (negsuc m)) None) V.OutOfRange ≡ cond t (Ok (negsuc m)) (Err V.OutOfRange)
    at true = refl
    at false = refl

module _ (t : Bool) (m : ℕ) (e : t ≡ false) where
  pub signed_within : m < 2 ^ 63 → Ok (pos m) ≡ signed_of (sorts.whole (integer_of t m))
  signed_within h = rw (e, lt-ltb m (2 ^ 63) h)

  pub signed_past : 2 ^ 63 ≤ m → Err V.OutOfRange ≡ signed_of (sorts.whole (integer_of t m))
  signed_past h = rw (e, le-ltb m (2 ^ 63) h)

pub ruleset signed_laws = (negative_signed, signed_within, signed_past)

-- ---- as a double

-- by the signed number, where there is one
abbrev double_by : Result ℤ ValueError → Result ℕ ValueError
double_by (Ok z) = double_of (sorts.whole z)
double_by (Err e) = Err e

double_same : (t : Bool) (m : ℕ) → double_by (signed_of (sorts.whole (integer_of t m))) ≡ double_of (sorts.whole (integer_of t m))
double_same true m = at (ltb m (2 ^ 63)) refl
  where
    at : (t : Bool) → ltb m (2 ^ 63) ≡ t → double_by (cond t (Ok (negsuc m)) (Err V.OutOfRange)) ≡ double_of (sorts.whole (negsuc m))
    at true e = refl
    at false e = rw (lt-leb (suc m) (2 ^ 53) (omega (arith, ltb-false m (2 ^ 63) e)))
double_same false m = at (ltb m (2 ^ 63)) refl
  where
    at : (t : Bool) → ltb m (2 ^ 63) ≡ t → double_by (cond t (Ok (pos m)) (Err V.OutOfRange)) ≡ double_of (sorts.whole (pos m))
    at true e = refl
    at false e = rw (lt-leb m (2 ^ 53) (omega (arith, ltb-false m (2 ^ 63) e)))

exact_is : (z : ℤ) → ok_or (exact z) V.OutOfRange ≡ double_of (sorts.whole z)
exact_is z = at (is_exact z)
  where
    at : (t : Bool) → ok_or (cond t (Some (of_integer z)) None) V.OutOfRange ≡ cond t (Ok (of_integer z)) (Err V.OutOfRange)
    at true = refl
    at false = refl

module _ (t : Bool) (m : ℕ) (x : Result ℤ ValueError) (i : x ≡ signed_of (sorts.whole (integer_of t m))) where
  pub double_refused : (e : ValueError) → x ≡ Err e → Err e ≡ double_of (sorts.whole (integer_of t m))
  double_refused e z = ap double_by (sym z ∙ i) ∙ double_same t m

  pub double_exact : (z : ℤ) → x ≡ Ok z → (y : Option ℕ) → y ≡ exact z → ok_or y V.OutOfRange ≡ double_of (sorts.whole (integer_of t m))
  double_exact z e y j = ap (λ y. ok_or y V.OutOfRange) j ∙ exact_is z ∙ ap double_by (sym e ∙ i) ∙ double_same t m

pub ruleset double_laws = (double_refused, double_exact)
