-- An odd number times a power of two, written with another power: which powers of two divide it, and how large its parts are.
use mathlib.Core.Path.{◌≡◌, refl, sym, ap, ◌∙◌, subst}
use Prim.Native.Nat.{ℕ, suc, ◌+◌, ◌-◌, ◌*◌, ◌/◌, ◌%◌, ◌^◌, ◌≤◌, ◌<◌}
use native.Mathlib.Nat.{le_trans, le_of_eq, le_of_suc-le-suc, lt_of_lt_of_le, lt_of_le_of_lt, lt_of_not-le, lt_irrefl, add-zero, one-mul, mul_assoc}
use native.Mathlib.Nat.{mul-le-mul_left, mul-le-mul_right, mul-mod_left, lt_of_mul-lt-mul_right, eq_of_mul-eq-mul_right, div-add-mod'}
use native.Mathlib.Omega.{arith}
use lib.Bits.{shifted_even}
use lib.Pow.{pow-add, pow_pos, pow_mono, pow-lt, shl_lt}

pub pow_le_back : (a b : ℕ) → 2 ^ a ≤ 2 ^ b → a ≤ b
pow_le_back a b h = le_of_suc-le-suc (lt_of_not-le (λ (g : suc b ≤ a). lt_irrefl (2 ^ b) (lt_of_lt_of_le (pow-lt g) h)))

pow_lt_back : (a b : ℕ) → 2 ^ a < 2 ^ b → a < b
pow_lt_back a b h = lt_of_not-le (λ (g : b ≤ a). lt_irrefl (2 ^ a) (lt_of_lt_of_le h (pow_mono g)))

pub shift : (m i k j : ℕ) → i + k ≡ j → m * 2 ^ j ≡ m * 2 ^ i * 2 ^ k
shift m i k j e = ap (λ (x : ℕ). m * 2 ^ x) (sym e) ∙ ap (λ (x : ℕ). m * x) (pow-add 2 i k) ∙ sym (mul_assoc m (2 ^ i) (2 ^ k))

module _ (m j p k : ℕ) (o : m % 2 ≡ 1) (e : m * 2 ^ j ≡ p * 2 ^ k) where
  pub reaches : k ≤ j
  reaches = le_of_suc-le-suc (lt_of_not-le no)
    where
      more : suc j ≤ k → suc (k - suc j) + j ≡ k
      more g = omega arith

      not_both : m % 2 ≡ 0 → ⊥
      not_both z = omega arith

      no : suc j ≤ k → ⊥
      no g = not_both (ap (λ (x : ℕ). x % 2)
          (eq_of_mul-eq-mul_right (2 ^ j) (pow_pos j) m (p * 2 ^ suc (k - suc j)) (e ∙ shift p (suc (k - suc j)) j k (more g))) ∙ shifted_even p (k - suc j))

  pub rest : p ≡ m * 2 ^ (j - k)
  rest = eq_of_mul-eq-mul_right (2 ^ k) (pow_pos k) p (m * 2 ^ (j - k)) (sym e ∙ shift m (j - k) k j (up reaches))
    where
      up : k ≤ j → j - k + k ≡ j
      up h = omega arith

  pub divides : (r : ℕ) → r ≤ j - k → p % 2 ^ r ≡ 0
  divides r h = ap (λ (x : ℕ). x % 2 ^ r) (rest ∙ shift m (j - k - r) r (j - k) (up h)) ∙ mul-mod_left (m * 2 ^ (j - k - r)) (2 ^ r)
    where
      up : r ≤ j - k → j - k - r + r ≡ j - k
      up h = omega arith

  -- a part with more digits leaves the odd number fewer
  pub few : (a r : ℕ) → p < 2 ^ (a + r) → r ≤ j - k → m < 2 ^ a
  few a r h g = lt_of_mul-lt-mul_right (2 ^ r)
      (lt_of_le_of_lt (le_trans (mul-le-mul_left m (pow_mono g)) (le_of_eq (sym rest))) (subst (λ (x : ℕ). p < x) (pow-add 2 a r) h))

  pub long : (a c : ℕ) → m < 2 ^ a → 2 ^ c ≤ p → c < a + (j - k)
  long a c h g = pow_lt_back c (a + (j - k)) (lt_of_le_of_lt g (subst (λ (x : ℕ). x < 2 ^ (a + (j - k))) (sym rest) (shl_lt a (j - k) h)))

  -- its own size, by that of the other way to write it
  pub under : (a c : ℕ) → m * 2 ^ j < 2 ^ a → 2 ^ c ≤ p → c + k < a
  under a c h g =
      pow_lt_back (c + k) a
      (lt_of_le_of_lt (le_trans (le_of_eq (pow-add 2 c k)) (mul-le-mul_right (2 ^ k) g)) (subst (λ (x : ℕ). x < 2 ^ a) e h))

  pub over : (a c : ℕ) → a ≤ j → p < 2 ^ c → a < c + k
  over a c h g = pow_lt_back a (c + k) (lt_of_le_of_lt
      (le_trans (pow_mono h) (le_trans (le_of_eq (sym (one-mul (2 ^ j)))) (le_trans (mul-le-mul_right (2 ^ j) some) (le_of_eq e)))) (shl_lt c k g))
    where
      some : 1 ≤ m
      some = omega arith

pub divided : (m j p k r : ℕ) → m % 2 ≡ 1 → m * 2 ^ j ≡ p * 2 ^ k → p % 2 ^ r ≡ 0 → r + k ≤ j
divided m j p k r o e z =
    let whole : p ≡ p / 2 ^ r * 2 ^ r = sym (div-add-mod' p (2 ^ r)) ∙ ap (λ (x : ℕ). p / 2 ^ r * 2 ^ r + x) z ∙ add-zero (p / 2 ^ r * 2 ^ r) in
    reaches m j (p / 2 ^ r) (r + k) o (e ∙ ap (λ (x : ℕ). x * 2 ^ k) whole ∙ sym (shift (p / 2 ^ r) r k (r + k) refl))
