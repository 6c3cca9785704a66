-- The least and the greatest digit of some entries.
use Prim.Native.Nat.{ℕ, min, max, ◌+◌, ◌≤◌, ◌<◌}
use native.Mathlib.Omega.{arith}
use native.Mathlib.Numerals.{add-one}
use mathlib.Core.Path.{◌≡◌, refl, sym, ap, ◌∙◌}
use mathlib.Core.Bool.{Bool, true, false}
use mathlib.Core.List.{List, [], ◌∷◌, ◌++◌}
use lib.ListN.{length, take, get_or}
use lib.Seq.{take-suc}
use lib.Dec.{ltb}
use borrow.Author.Tests.{ltb-true, ltb-false}
use Rattle.entries.specs.Among.{here}
use Rattle.entries.proofs.Perms.{in_left, in_last, in_cases}
use Rattle.divide.specs.Passes.{digit_in, Shown, Ranges}
use Rattle.divide.proofs.TableLaws.{none_in}

module _ (a b : ℕ) where
  min_cases : {X : Type 0} → (min a b ≡ a → X) → (min a b ≡ b → X) → X
  min_cases {X} f g = go (ltb a b) refl
    where
      go : (o : Bool) → ltb a b ≡ o → X
      go true e = f (omega (arith, ltb-true a b e))
      go false e = g (omega (arith, ltb-false a b e))

  max_cases : {X : Type 0} → (max a b ≡ a → X) → (max a b ≡ b → X) → X
  max_cases {X} f g = go (ltb a b) refl
    where
      go : (o : Bool) → ltb a b ≡ o → X
      go true e = g (omega (arith, ltb-true a b e))
      go false e = f (omega (arith, ltb-false a b e))

-- ---- one entry more

module _ (s : List ℕ) (j : ℕ) where
  shown_last : (u : List ℕ) (y d : ℕ) → d ≡ digit_in s j y → Shown s j (u ++ (y ∷ [])) d
  shown_last u y d e = record { entry = y; there = in_last u y; is = sym e }

  shown_more : (u : List ℕ) (y d r : ℕ) → Shown s j u d → r ≡ d → Shown s j (u ++ (y ∷ [])) r
  shown_more u y d r w e = record { entry = w.entry; there = in_left u (y ∷ []) w.there; is = w.is ∙ sym e }

  one_more_law : (u : List ℕ) (y low high : ℕ) → Ranges s j u low high → Ranges s j (u ++ (y ∷ [])) (min low (digit_in s j y)) (max high (digit_in s j y))
  one_more_law u y low high w = record {
    least = λ x i. in_cases x u y i (λ k. omega (arith, w.least x k)) (λ e. omega (arith, ap (λ (z : ℕ). digit_in s j z) e));
    greatest = λ x i. in_cases x u y i (λ k. omega (arith, w.greatest x k)) (λ e. omega (arith, ap (λ (z : ℕ). digit_in s j z) e));
    low_shown = min_cases low (digit_in s j y) (shown_more u y low (min low (digit_in s j y)) w.low_shown) (shown_last u y (min low (digit_in s j y)));
    high_shown = max_cases high (digit_in s j y) (shown_more u y high (max high (digit_in s j y)) w.high_shown) (shown_last u y (max high (digit_in s j y)));
  }

  one : (y : ℕ) → Ranges s j (y ∷ []) (digit_in s j y) (digit_in s j y)
  one y = record {
    least = λ x i. in_cases x [] y i (λ k. absurd (none_in x k)) (λ e. omega (arith, ap (λ (z : ℕ). digit_in s j z) e));
    greatest = λ x i. in_cases x [] y i (λ k. absurd (none_in x k)) (λ e. omega (arith, ap (λ (z : ℕ). digit_in s j z) e));
    low_shown = record { entry = y; there = here; is = refl };
    high_shown = record { entry = y; there = here; is = refl };
  }

-- ---- the loop

pub record Ranging (s : List ℕ) (j : ℕ) (t : List ℕ) (low high i : ℕ) : Type 0 where
  pub within : i ≤ length t
  pub is : Ranges s j (take i t) low high

module _ (s : List ℕ) (j : ℕ) (t : List ℕ) where
  pub range_starts : 0 < length t → (d : ℕ) → d ≡ digit_in s j (get_or t 0 0) → Ranging s j t d d 1
  range_starts l d e = record { within = l; is = rw (take-suc t 0 0 l, e) (one s j (get_or t 0 0)) }

  module _ (low high i : ℕ) (w : Ranging s j t low high i) where
    pub range_on : i < length t → (d a b : ℕ) → d ≡ digit_in s j (get_or t i 0) → a ≡ min low d → b ≡ max high d → Ranging s j t a b (i + 1)
    range_on l d a b e f g = record {
      within = omega arith;
      is = rw (add-one i, take-suc t i 0 l, f, g, e) (one_more_law s j (take i t) (get_or t i 0) low high w.is);
    }
