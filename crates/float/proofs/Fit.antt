-- Which of the numbers that binary64 holds binary32 holds too: those that are an odd m below 2 ^ 24, times 2 ^ j for a j from 925 on, and that lie
-- below 2 ^ 1202, all counted in binary64's smallest values.
use mathlib.Core.Path.{◌≡◌, sym, ap, ◌∙◌, subst}
use Prim.Native.Nat.{ℕ, suc, ◌+◌, ◌-◌, ◌*◌, ◌%◌, ◌^◌, ◌≤◌, ◌<◌}
use native.Mathlib.Nat.{add-sub_cancel, mul_assoc, mul_right_comm, mul-lt-mul_of_pos_right, lt_of_mul-lt-mul_right, eq_of_mul-eq-mul_right}
use native.Mathlib.Omega.{arith}
use mathlib.Core.Bool.{Bool, ◌&&◌}
use lib.IntN.{ℤ, pos, negsuc}
use lib.Dec.{T, leb, ltb, eqb, eqb→eq, ltb→lt, lt→ltb, leb→le, le→leb}
use lib.Pow.{pow-add, pow_pos, pow_mono}
use lib.Ieee.{Format, fin, prec, emax, low, up, down, fits}
use lib.Ieee.Fits.{and_i, and_l, and_r, eq→eqb, down_pos}
use Rattle.float.proofs.Power.{pow_le_back}

-- the tests that `fits` makes of a number other than zero
pub record Fit (f : Format) (m : ℕ) (x : ℤ) : Type 0 where
  pub odd : m % 2 ≡ 1
  pub short : m < 2 ^ prec f
  pub fine : down x ≤ 2 ^ low f
  pub bounded : m * up x < 2 ^ suc (emax f) * down x

pub fit_of : (f : Format) (s : Bool) (m : ℕ) (x : ℤ) → T (fits f (fin s (suc m) x)) → Fit f (suc m) x
unfolding fits
fit_of f s m x t =
    let a : Bool = eqb (suc m % 2) 1 in
    let b : Bool = ltb (suc m) (2 ^ prec f) in
    let c : Bool = leb (down x) (2 ^ low f) in
    let d : Bool = ltb (suc m * up x) (2 ^ suc (emax f) * down x) in
    let abc : T (a && b && c) = and_l (a && b && c) d t in
    let ab : T (a && b) = and_l (a && b) c abc in
    record {
      odd = eqb→eq (suc m % 2) 1 (and_l a b ab);
      short = ltb→lt (suc m) (2 ^ prec f) (and_r a b ab);
      fine = leb→le (down x) (2 ^ low f) (and_r (a && b) c abc);
      bounded = ltb→lt (suc m * up x) (2 ^ suc (emax f) * down x) (and_r (a && b && c) d t);
    }

pub fits_of : (f : Format) (s : Bool) (m : ℕ) (x : ℤ) → Fit f (suc m) x → T (fits f (fin s (suc m) x))
unfolding fits
fits_of f s m x t =
    and_i (eqb (suc m % 2) 1 && ltb (suc m) (2 ^ prec f) && leb (down x) (2 ^ low f)) (ltb (suc m * up x) (2 ^ suc (emax f) * down x))
    (and_i (eqb (suc m % 2) 1 && ltb (suc m) (2 ^ prec f)) (leb (down x) (2 ^ low f))
    (and_i (eqb (suc m % 2) 1) (ltb (suc m) (2 ^ prec f)) (eq→eqb t.odd) (lt→ltb (suc m) (2 ^ prec f) t.short))
    (le→leb (down x) (2 ^ low f) t.fine))
    (lt→ltb (suc m * up x) (2 ^ suc (emax f) * down x) t.bounded)

-- ---- the exponent as a count j of doublings of 2 ^ -l
pub record Place (l : ℕ) (x : ℤ) (j : ℕ) : Type 0 where
  pub ups : up x ≡ 2 ^ (j - l)
  pub downs : down x ≡ 2 ^ (l - j)

pub place : (l : ℕ) (x : ℤ) → down x ≤ 2 ^ l → (j : ℕ) × Place l x j
place l (pos a) h = (a + l, record { ups = ap (λ (n : ℕ). 2 ^ n) (sym (add-sub_cancel a l)); downs = ap (λ (n : ℕ). 2 ^ n) none })
  where
    none : 0 ≡ l - (a + l)
    none = omega arith
place l (negsuc a) h = (l - suc a, record { ups = ap (λ (n : ℕ). 2 ^ n) none; downs = ap (λ (n : ℕ). 2 ^ n) (all (pow_le_back (suc a) l h)) })
  where
    none : 0 ≡ l - suc a - l
    none = omega arith

    all : suc a ≤ l → suc a ≡ l - (l - suc a)
    all h = omega arith

module _ (l : ℕ) (x : ℤ) (j : ℕ) (at : Place l x j) where
  balance : (m : ℕ) → m * up x * 2 ^ l ≡ m * 2 ^ j * down x
  balance m =
      mul_assoc m (up x) (2 ^ l)
      ∙ ap (λ (n : ℕ). m * n) (ap (λ (n : ℕ). n * 2 ^ l) at.ups ∙ sym (pow-add 2 (j - l) l) ∙ ap (λ (n : ℕ). 2 ^ n) same ∙ pow-add 2 j (l - j)
      ∙ ap (λ (n : ℕ). 2 ^ j * n) (sym at.downs))
      ∙ sym (mul_assoc m (2 ^ j) (down x))
    where
      same : j - l + l ≡ j + (l - j)
      same = omega arith

  pub counted : (m a : ℕ) → m * up x * 2 ^ l ≡ a * down x → m * 2 ^ j ≡ a
  counted m a e = eq_of_mul-eq-mul_right (down x) (down_pos x) (m * 2 ^ j) a (sym (balance m) ∙ e)

  pub least : (c : ℕ) → down x ≤ 2 ^ c → l ≤ c + j
  least c h = less (pow_le_back (l - j) c (subst (λ (n : ℕ). n ≤ 2 ^ c) at.downs h))
    where
      less : l - j ≤ c → l ≤ c + j
      less h = omega arith

  pub fine_of : (c : ℕ) → l ≤ c + j → down x ≤ 2 ^ c
  fine_of c h = subst (λ (n : ℕ). n ≤ 2 ^ c) (sym at.downs) (pow_mono less)
    where
      less : l - j ≤ c
      less = omega arith

  sides : (b : ℕ) → 2 ^ b * down x * 2 ^ l ≡ 2 ^ (b + l) * down x
  sides b = mul_right_comm (2 ^ b) (down x) (2 ^ l) ∙ ap (λ (n : ℕ). n * down x) (sym (pow-add 2 b l))

  pub greatest : (m b : ℕ) → m * up x < 2 ^ b * down x → m * 2 ^ j < 2 ^ (b + l)
  greatest m b h = lt_of_mul-lt-mul_right (down x)
      (subst (λ (n : ℕ). n < 2 ^ (b + l) * down x) (balance m) (subst (λ (n : ℕ). m * up x * 2 ^ l < n) (sides b) (mul-lt-mul_of_pos_right h (pow_pos l))))

  pub bounded_of : (m b : ℕ) → m * 2 ^ j < 2 ^ (b + l) → m * up x < 2 ^ b * down x
  bounded_of m b h = lt_of_mul-lt-mul_right (2 ^ l) (subst (λ (n : ℕ). n < 2 ^ b * down x * 2 ^ l) (sym (balance m))
      (subst (λ (n : ℕ). m * 2 ^ j * down x < n) (sym (sides b)) (mul-lt-mul_of_pos_right h (down_pos x))))
