-- The float rule by the zeros that 2^52 + f ends in, as the code asks it.
use mathlib.Core.Path.{◌≡◌, refl, sym, ap, ◌∙◌, subst}
use mathlib.Core.Logic.{◌⊎◌, inl, inr}
use Prim.Native.Nat.{ℕ, zero, suc, ◌+◌, ◌-◌, ◌*◌, ◌/◌, ◌%◌, ◌^◌, ◌≤◌, ◌<◌}
use native.Mathlib.Nat.{pow-suc}
use native.Mathlib.Numerals.{add-one}
use native.Mathlib.Omega.{arith}
use mathlib.Core.Bool.{Bool, true, false, ◌&&◌, ◌||◌}
use lib.Count.{count_trailing_zeros, under}
use lib.Dec.{leb, eqb, leb-zero, leb-suc-zero, leb-suc-suc}
use lib.Pow.{low, mod-pow-add}
use borrow.Author.Tests.{leb-true, leb-false, le-leb, lt-leb, eq-eqb, ne_eqb, eqb-true, eqb-false}
use Rattle.float.specs.Rule.{exponent, fraction, spare, holds}

-- ---- 2^k divides a number that ends in k zeros or more
mod_double : (n k : ℕ) → n % 2 ^ suc k ≡ (n / 2 % 2 ^ k) * 2 + n % 2
mod_double n k = ap (λ (j : ℕ). n % 2 ^ j) (sym (add-one k)) ∙ mod-pow-add n k 1

ends : (d n k : ℕ) → 0 < n → n < 2 ^ d → eqb (n % 2 ^ k) 0 ≡ leb k (count_trailing_zeros d n)
unfolding count_trailing_zeros
ends zero n k h l = absurd (none h l)
  where
    none : 0 < n → n < 1 → ⊥
    none h l = omega arith
ends (suc d) n zero h l = eq-eqb (n % 1) 0 (omega arith) ∙ sym (leb-zero (under (n % 2) (count_trailing_zeros d (n / 2))))
ends (suc d) n (suc k) h l = ap (λ (x : ℕ). eqb x 0) (mod_double n k) ∙ go (n % 2) refl (λ p. ends d (n / 2) k p less)
  where
    less : n / 2 < 2 ^ d
    less = omega (arith, subst (λ (x : ℕ). n < x) (pow-suc 2 d) l)

    half : (x : ℕ) → eqb (x * 2 + 0) 0 ≡ eqb x 0
    half zero = refl
    half (suc x) = ne_eqb (suc x * 2 + 0) 0 (λ z. omega arith) ∙ sym (ne_eqb (suc x) 0 (λ z. omega arith))

    go : (r : ℕ) → n % 2 ≡ r → (0 < n / 2 → eqb (n / 2 % 2 ^ k) 0 ≡ leb k (count_trailing_zeros d (n / 2)))
        → eqb ((n / 2 % 2 ^ k) * 2 + r) 0 ≡ leb (suc k) (under r (count_trailing_zeros d (n / 2)))
    go zero e ih = half (n / 2 % 2 ^ k) ∙ ih (omega arith) ∙ sym (leb-suc-suc k (count_trailing_zeros d (n / 2)))
    go (suc r) e ih = ne_eqb ((n / 2 % 2 ^ k) * 2 + suc r) 0 (λ z. omega arith) ∙ sym (leb-suc-zero k)

-- ---- of an exponent and at most 52 zeros
le_or_lt : (a b : ℕ) → (a ≤ b) ⊎ (b < a)
le_or_lt a b = go (leb a b) refl
  where
    go : (t : Bool) → leb a b ≡ t → (a ≤ b) ⊎ (b < a)
    go true e = inl (leb-true a b e)
    go false e = inr (leb-false a b e)

module _ (e z : ℕ) where
  abbrev asked : Bool
  asked = leb 926 (z + e) && leb 29 z && leb e 1150

  abbrev ruled : Bool
  ruled = (leb 874 e && leb e 1150) && leb (spare e) z

  below : z ≤ 52 → e < 874 → asked ≡ ruled
  below h g = rw (lt-leb 926 (z + e) (omega arith), lt-leb 874 e g)

  subnormal : 874 ≤ e → e < 897 → asked ≡ ruled
  subnormal a b = rw (lt-leb 897 e b, le-leb 874 e a, le-leb e 1150 (omega arith)) (go (le_or_lt 926 (z + e)))
    where
      go : (926 ≤ z + e) ⊎ (z + e < 926) → (leb 926 (z + e) && leb 29 z && true) ≡ leb (926 - e) z
      go (inl h) = rw (le-leb 926 (z + e) h, le-leb 29 z (omega arith), le-leb (926 - e) z (omega arith))
      go (inr h) = rw (lt-leb 926 (z + e) h, lt-leb (926 - e) z (omega arith))

  normal : 897 ≤ e → asked ≡ ruled
  normal a = rw (le-leb 897 e a, le-leb 874 e (omega arith)) (go (le_or_lt 29 z))
    where
      both : (t : Bool) → t ≡ (t && true)
      both true = refl
      both false = refl

      neither : (s t : Bool) → (s && false && t) ≡ (t && false)
      neither true true = refl
      neither true false = refl
      neither false true = refl
      neither false false = refl

      go : (29 ≤ z) ⊎ (z < 29) → (leb 926 (z + e) && leb 29 z && leb e 1150) ≡ (leb e 1150 && leb 29 z)
      go (inl h) = rw (le-leb 926 (z + e) (omega arith), le-leb 29 z h) (both (leb e 1150))
      go (inr h) = rw (lt-leb 29 z h) (neither (leb 926 (z + e)) (leb e 1150))

  number : z ≤ 52 → asked ≡ ruled
  number h = go (le_or_lt 874 e) (le_or_lt 897 e)
    where
      go : (874 ≤ e) ⊎ (e < 874) → (897 ≤ e) ⊎ (e < 897) → asked ≡ ruled
      go (inr a) b = below h a
      go (inl a) (inl b) = normal b
      go (inl a) (inr b) = subnormal a b

-- ---- of a pattern without its sign, twice
same_test : (a b c d : ℕ) → (a ≡ b → c ≡ d) → (c ≡ d → a ≡ b) → eqb a b ≡ eqb c d
same_test a b c d f g = go (eqb c d) refl
  where
    go : (t : Bool) → eqb c d ≡ t → eqb a b ≡ t
    go true e = eq-eqb a b (g (eqb-true c d e))
    go false e = ne_eqb a b (λ z. eqb-false c d e (f z))

module _ (e f : ℕ) where
  abbrev twice : ℕ
  twice = (e * 2 ^ 52 + f) * 2

  ended : f < 2 ^ 52 → (eqb twice 0 || eqb twice (2047 * 2 ^ 53)) ≡ (eqb f 0 && (eqb e 0 || eqb e 2047))
  ended l = go (le_or_lt 1 f)
    where
      whole : e * 2 ^ 52 + f ≡ 2047 * 2 ^ 52 → f ≡ 0
      whole z = sym (low e 52 l) ∙ ap (λ (x : ℕ). x % 2 ^ 52) z

      go : (1 ≤ f) ⊎ (f < 1) → (eqb twice 0 || eqb twice (2047 * 2 ^ 53)) ≡ (eqb f 0 && (eqb e 0 || eqb e 2047))
      go (inl h) =
          rw (ne_eqb twice 0 (λ z. omega arith), ne_eqb twice (2047 * 2 ^ 53) (λ z. omega (arith, whole (omega arith))), ne_eqb f 0 (λ z. omega arith))
      go (inr h) = rw (
        eq-eqb f 0 (omega arith),
        same_test twice 0 e 0 (λ z. omega arith) (λ z. omega arith),
        same_test twice (2047 * 2 ^ 53) e 2047 (λ z. omega arith) (λ z. omega arith),
      )

-- ---- of a pattern
module _ (b : ℕ) where
  abbrev whole : ℕ
  whole = 2 ^ 52 + fraction b

  abbrev zeros : ℕ
  zeros = count_trailing_zeros 64 whole

  divided : (k : ℕ) → eqb (whole % 2 ^ k) 0 ≡ leb k zeros
  divided k = ends 64 whole k (omega arith) (omega arith)

  at_most : zeros ≤ 52
  at_most = go (le_or_lt 53 zeros)
    where
      no : leb 53 zeros ≡ true → ⊥
      no e = omega (arith, eqb-true (whole % 2 ^ 53) 0 (divided 53 ∙ e))

      go : (53 ≤ zeros) ⊎ (zeros < 53) → zeros ≤ 52
      go (inl h) = absurd (no (le-leb 53 zeros h))
      go (inr h) = omega arith

  pub by_zeros : ((eqb (b % 2 ^ 63 * 2) 0 || eqb (b % 2 ^ 63 * 2) (2047 * 2 ^ 53)) || (leb 926 (zeros + exponent b) && leb 29 zeros && leb (exponent b) 1150))
      ≡ holds b
  unfolding holds
  by_zeros = rw (number (exponent b) zeros at_most, mod-pow-add b 11 52, ended (exponent b) (fraction b) (omega arith), ← divided (spare (exponent b)))
