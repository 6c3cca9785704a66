-- The float rule says what binary32 holds: of a sign and two fields, the test on the fields passes exactly if binary32 holds the number that they are.
use mathlib.Core.Path.{◌≡◌, sym, ap, ◌∙◌, subst}
use mathlib.Core.Logic.{◌⊎◌, inl, inr}
use Prim.Native.Nat.{ℕ, zero, suc, ◌+◌, ◌-◌, ◌*◌, ◌/◌, ◌%◌, ◌^◌, ◌≤◌, ◌<◌}
use native.Mathlib.Nat.{mod-lt, le_trans, le_of_suc-le-suc, lt_of_lt_of_le, le-add_right, zero-mul, mul-pos, lt_irrefl, zero-lt-suc}
use native.Mathlib.Omega.{arith}
use mathlib.Core.Bool.{Bool, true, false, not, ◌&&◌, ◌||◌, cond}
use lib.Dec.{T, leb, eqb, eqb→eq, leb→le, le→leb, nleb→lt, eqb-suc-zero, lit≤}
use lib.Pow.{pow_pos, pow_mono, shl_lt, field}
use lib.Ieee.{Float, nan, inf, fin, binary32, binary64, up, top, hid, odd, fits, is_nan, of_fields, of_bits}
use lib.Ieee.Bits.{is_true, of_bits-fits, nan_bits_is}
use lib.Ieee.Digits.{Equals, odd_val}
use lib.Ieee.Fits.{and_i, and_l, and_r, eq→eqb, cond-fits, nan-fits, inf-fits, down_pos}
use Rattle.float.specs.Rule.{exponent, fraction, spare, holds_at, holds}
use Rattle.float.specs.Width.{is_nan64}
use Rattle.float.proofs.Power.{divides, divided, few, long, under, over}
use Rattle.float.proofs.Fit.{Fit, fit_of, fits_of, place, counted, least, fine_of, greatest, bounded_of}

or_cases : (a b : Bool) → T (a || b) → T a ⊎ T b
or_cases true b t = inl tt
or_cases false b t = inr t

or_l : (a b : Bool) → T a → T (a || b)
or_l true b t = tt
or_l false b t = absurd t

or_r : (a b : Bool) → T b → T (a || b)
or_r true b t = tt
or_r false b t = t

-- ---- a number that is p * 2 ^ k of binary64's smallest values

narrower : (v : Float) (p k r : ℕ) → T (fits binary64 v) → Equals v (p * 2 ^ k) (2 ^ 1074) → p < 2 ^ 53 → p % 2 ^ r ≡ 0 → 29 ≤ r → 925 ≤ r + k
    → k ≤ 1149 → T (fits binary32 v)
narrower nan p k r t e h z a b c = absurd e
narrower (inf s) p k r t e h z a b c = absurd e
narrower (fin s zero x) p k r t e h z a b c = unfold fits in t
narrower (fin s (suc m) x) p k r t e h z a b c =
    let w : Fit binary64 (suc m) x = fit_of binary64 s m x t in
    let l = place 1074 x w.fine in
    let j = l.0 in
    let same : suc m * 2 ^ j ≡ p * 2 ^ k = counted 1074 x j l.1 (suc m) (p * 2 ^ k) e in
    let d : r + k ≤ j = divided (suc m) j p k r w.odd same z in
    fits_of binary32 s m x
    (record {
      odd = w.odd;
      short = few (suc m) j p k w.odd same 24 r (lt_of_lt_of_le h (pow_mono (more r a))) (less r k j d);
      fine = fine_of 1074 x j l.1 149 (from r k j b d);
      bounded = bounded_of 1074 x j l.1 (suc m) 128 (subst (λ (n : ℕ). n < 2 ^ 1202) (sym same) (lt_of_lt_of_le (shl_lt 53 k h) (pow_mono (top k c))));
    })
  where
    more : (r : ℕ) → 29 ≤ r → 53 ≤ 24 + r
    more r a = omega arith

    less : (r k j : ℕ) → r + k ≤ j → r ≤ j - k
    less r k j d = omega arith

    from : (r k j : ℕ) → 925 ≤ r + k → r + k ≤ j → 1074 ≤ 149 + j
    from r k j b d = omega arith

    top : (k : ℕ) → k ≤ 1149 → 53 + k ≤ 1202
    top k c = omega arith

-- what binary32 asks, of such a number
record Spread (p k m j : ℕ) : Type 0 where
  odd_one : m % 2 ≡ 1
  same : m * 2 ^ j ≡ p * 2 ^ k
  short : m < 2 ^ 24
  from : 925 ≤ j
  to : m * 2 ^ j < 2 ^ 1202

spread : (v : Float) (p k : ℕ) → T (fits binary32 v) → Equals v (p * 2 ^ k) (2 ^ 1074) → 0 < p → (m : ℕ) × (j : ℕ) × Spread p k m j
spread nan p k t e h = absurd e
spread (inf s) p k t e h = absurd e
spread (fin s zero x) p k t e h = absurd (lt_irrefl 0
    (subst (λ (n : ℕ). 0 < n) (sym e ∙ ap (λ (n : ℕ). n * 2 ^ 1074) (zero-mul (up x)) ∙ zero-mul (2 ^ 1074)) (mul-pos (mul-pos h (pow_pos k)) (down_pos x))))
spread (fin s (suc m) x) p k t e h =
    let w : Fit binary32 (suc m) x = fit_of binary32 s m x t in
    let l = place 1074 x (le_trans w.fine (lit≤ tt)) in
    let j = l.0 in
    let same : suc m * 2 ^ j ≡ p * 2 ^ k = counted 1074 x j l.1 (suc m) (p * 2 ^ k) e in (
      suc m,
      j,
      record {
        odd_one = w.odd;
        same = same;
        short = w.short;
        from = less j (least 1074 x j l.1 149 w.fine);
        to = greatest 1074 x j l.1 (suc m) 128 w.bounded;
      },
    )
  where
    less : (j : ℕ) → 1074 ≤ 149 + j → 925 ≤ j
    less j h = omega arith

-- ---- the test's power of two

spare_cases : (k : ℕ) (P : ℕ → Type 0) → (897 ≤ suc k → P 29) → (suc k < 897 → P (926 - suc k)) → P (spare (suc k))
spare_cases k P a b = go (leb 897 (suc k)) (leb→le 897 (suc k)) (nleb→lt 897 (suc k))
  where
    go : (t : Bool) → (T t → 897 ≤ suc k) → (T (not t) → suc k < 897) → P (cond t 29 (926 - suc k))
    go true c d = a (c tt)
    go false c d = b (d tt)

spare_least : (k : ℕ) → 29 ≤ spare (suc k)
spare_least k = spare_cases k (λ (r : ℕ). 29 ≤ r) (λ h. omega arith) (λ h. omega arith)

spare_from : (k : ℕ) → 925 ≤ spare (suc k) + k
spare_from k = spare_cases k (λ (r : ℕ). 925 ≤ r + k) (λ h. omega arith) (λ h. omega arith)

spare_most : (k j : ℕ) → 52 < 24 + (j - k) → 925 ≤ j → spare (suc k) ≤ j - k
spare_most k j a b = spare_cases k (λ (r : ℕ). r ≤ j - k) (λ h. omega arith) (λ h. omega arith)

-- ---- the rule, from a sign and two fields

abbrev inside : ℕ → ℕ → Bool
inside e f = (leb 874 e && leb e 1150) && eqb ((2 ^ 52 + f) % 2 ^ spare e) 0

abbrev number : Bool → ℕ → ℕ → Float
number s k f = odd 53 s (2 ^ 52 + f) k 1074

sum_lt : (f : ℕ) → f < 2 ^ 52 → 2 ^ 52 + f < 2 ^ 53
sum_lt f h = omega arith

inside_fits : (s : Bool) (k f : ℕ) → f < 2 ^ 52 → T (fits binary64 (number s k f)) → T (inside (suc k) f) → T (fits binary32 (number s k f))
inside_fits s k f h t i =
    let a : Bool = leb 874 (suc k) in
    let b : Bool = leb (suc k) 1150 in
    let c : Bool = eqb ((2 ^ 52 + f) % 2 ^ spare (suc k)) 0 in
    narrower (number s k f) (2 ^ 52 + f) k (spare (suc k)) t (odd_val 53 s (2 ^ 52 + f) k 1074) (sum_lt f h)
    (eqb→eq ((2 ^ 52 + f) % 2 ^ spare (suc k)) 0 (and_r (a && b) c i)) (spare_least k) (spare_from k)
    (le_of_suc-le-suc (leb→le (suc k) 1150 (and_r a b (and_l (a && b) c i))))

fits_inside : (s : Bool) (k f : ℕ) → f < 2 ^ 52 → T (fits binary32 (number s k f)) → T (inside (suc k) f)
fits_inside s k f h t =
    let p = 2 ^ 52 + f in
    let w = spread (number s k f) p k t (odd_val 53 s p k 1074) (lt_of_lt_of_le (pow_pos 52) (le-add_right (2 ^ 52) f)) in
    let m = w.0 in
    let j = w.1 in
    let q : Spread p k m j = w.2 in
    and_i (leb 874 (suc k) && leb (suc k) 1150) (eqb (p % 2 ^ spare (suc k)) 0)
    (and_i (leb 874 (suc k)) (leb (suc k) 1150)
    (le→leb 874 (suc k) (low_end k (over m j p k q.odd_one q.same 925 53 q.from (sum_lt f h))))
    (le→leb (suc k) 1150 (high_end k (under m j p k q.odd_one q.same 1202 52 q.to (le-add_right (2 ^ 52) f)))))
    (eq→eqb (divides m j p k q.odd_one q.same (spare (suc k))
    (spare_most k j (long m j p k q.odd_one q.same 24 52 q.short (le-add_right (2 ^ 52) f)) q.from)))
  where
    low_end : (k : ℕ) → 925 < 53 + k → 874 ≤ suc k
    low_end k h = omega arith

    high_end : (k : ℕ) → 52 + k < 1202 → suc k ≤ 1150
    high_end k h = omega arith

-- ---- both ways

pub held : (s : Bool) (e f : ℕ) → f < 2 ^ 52 → T (fits binary64 (of_fields binary64 s e f)) → T (holds_at e f) → T (fits binary32 (of_fields binary64 s e f))
unfolding of_fields
held s zero f h t i = zero_held (eqb→eq f 0 (only f (or_cases (eqb f 0 && true) false i)))
  where
    only : (f : ℕ) → T (eqb f 0 && true) ⊎ ⊥ → T (eqb f 0)
    only f (inl i) = and_l (eqb f 0) true i
    only f (inr i) = absurd i

    zero_held : f ≡ 0 → T (fits binary32 (odd 53 s f 0 1074))
    zero_held z = subst (λ (n : ℕ). T (fits binary32 (odd 53 s n 0 1074))) (sym z) (unfold fits odd in tt)
held s (suc k) f h t i = go (eqb (suc k) 2047) t i
  where
    go : (b : Bool) → T (fits binary64 (cond b (cond (eqb f 0) (inf s) nan) (number s k f))) → T ((eqb f 0 && (eqb (suc k) 0 || b)) || inside (suc k) f)
        → T (fits binary32 (cond b (cond (eqb f 0) (inf s) nan) (number s k f)))
    go true t i = cond-fits binary32 (eqb f 0) (inf s) nan (inf-fits binary32 s) (nan-fits binary32)
    go false t i = elim (or_cases (eqb f 0 && (eqb (suc k) 0 || false)) (inside (suc k) f) i) [
      | inl u ↦ absurd (rw (eqb-suc-zero k) at (and_r (eqb f 0) (eqb (suc k) 0 || false) u))
      | inr u ↦ inside_fits s k f h t u
    ]

no_nan : (s b : Bool) → is_nan (cond b (inf s) nan) ≡ false → T b
unfolding is_nan
no_nan s true e = tt
no_nan s false e = subst (λ (b : Bool). T b) e tt

pub fitting : (s : Bool) (e f : ℕ) → f < 2 ^ 52 → is_nan (of_fields binary64 s e f) ≡ false → T (fits binary32 (of_fields binary64 s e f)) → T (holds_at e f)
unfolding of_fields
fitting s zero zero h n t = tt
fitting s zero (suc f) h n t =
    let w = spread (odd 53 s (suc f) 0 1074) (suc f) 0 t (odd_val 53 s (suc f) 0 1074) (zero-lt-suc f) in
    let q : Spread (suc f) 0 w.0 w.1 = w.2 in
    absurd (no (over w.0 w.1 (suc f) 0 q.odd_one q.same 925 52 q.from h))
  where
    no : 925 < 52 + 0 → ⊥
    no h = omega arith
fitting s (suc k) f h n t = go (eqb (suc k) 2047) n t
  where
    go : (b : Bool) → is_nan (cond b (cond (eqb f 0) (inf s) nan) (number s k f)) ≡ false
        → T (fits binary32 (cond b (cond (eqb f 0) (inf s) nan) (number s k f)))
        → T ((eqb f 0 && (eqb (suc k) 0 || b)) || inside (suc k) f)
    go true n t = or_l (eqb f 0 && (eqb (suc k) 0 || true)) (inside (suc k) f)
        (and_i (eqb f 0) (eqb (suc k) 0 || true) (no_nan s (eqb f 0) n) (or_r (eqb (suc k) 0) true tt))
    go false n t = or_r (eqb f 0 && (eqb (suc k) 0 || false)) (inside (suc k) f) (fits_inside s k f h t)

-- ---- the rule, from a pattern

pub to_T : (b : Bool) → b ≡ true → T b
to_T b e = subst (λ (c : Bool). T c) (sym e) tt

pub to_not : (b : Bool) → b ≡ false → T (not b)
to_not b e = subst (λ (c : Bool). T (not c)) (sym e) tt

-- the exponent field of the rule is that of the library
pub same_exponent : (b : ℕ) → b % top binary64 / hid binary64 ≡ exponent b
same_exponent b = field b 11 52

by_fields : (b : ℕ) → of_bits binary64 b ≡ of_fields binary64 (leb (top binary64) b) (exponent b) (fraction b)
unfolding of_bits
by_fields b = ap (λ (e : ℕ). of_fields binary64 (leb (top binary64) b) e (fraction b)) (same_exponent b)

fraction_lt : (b : ℕ) → fraction b < 2 ^ 52
fraction_lt b = mod-lt b (pow_pos 52)

pub held_fits : (b : ℕ) → holds b ≡ true → T (fits binary32 (of_bits binary64 b))
unfolding holds
held_fits b h =
    subst (λ (v : Float). T (fits binary32 v)) (sym (by_fields b))
    (held (leb (top binary64) b) (exponent b) (fraction b) (fraction_lt b) (subst (λ (v : Float). T (fits binary64 v)) (by_fields b) (of_bits-fits binary64 b))
    (to_T (holds_at (exponent b) (fraction b)) h))

pub fits_held : (b : ℕ) → is_nan64 b ≡ false → T (fits binary32 (of_bits binary64 b)) → holds b ≡ true
unfolding holds
fits_held b n t =
    is_true (holds_at (exponent b) (fraction b))
    (fitting (leb (top binary64) b) (exponent b) (fraction b) (fraction_lt b) (ap is_nan (sym (by_fields b)) ∙ sym (nan_bits_is binary64 b) ∙ n)
    (subst (λ (v : Float). T (fits binary32 v)) (by_fields b) t))
