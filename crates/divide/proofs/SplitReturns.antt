-- Entries that go to the front change places with those that do not.
use Prim.Native.Nat.{ℕ, ◌+◌, ◌≤◌, ◌<◌}
use native.Mathlib.Omega.{arith}
use mathlib.Core.Path.{◌≡◌, refl, ap, ◌∙◌}
use mathlib.Core.Bool.{Bool, true, false, cond, beq}
use mathlib.Core.List.{List}
use lib.ListN.{length, get_or, set, length-set}
use lib.Seq.{get_or-set_same, get_or-set_other}
use lib.Dec.{eqb, leb, ltb}
use Rattle.std.specs.Int.{from_bool}
use borrow.Author.Tests.{eqb-true, eqb-false, lt-ltb, le-ltb, leb-true, leb-false}
use Rattle.entries.specs.Entry.{begin_in, length_in}
use Rattle.entries.specs.Among.{Perm, then, In}
use Rattle.entries.proofs.Perms.{perm_same, perm_in, perm_length}
use Rattle.divide.specs.Passes.{digit_in, in_front, count_front, Reach, Splits}
use Rattle.tables.proofs.FitReturns.{in_at}
use Rattle.divide.proofs.TableLaws.{front_all, rest_all, swapped}

-- ---- what goes to the front

pub counted_is : (mid d : ℕ) (lows : Bool) → from_bool (beq (leb d mid) lows) ≡ count_front lows mid d
unfolding count_front
counted_is mid d true = go (leb d mid)
  where
    go : (o : Bool) → from_bool (beq o true) ≡ cond o 1 0
    go true = refl
    go false = refl
counted_is mid d false = go (leb d mid) refl
  where
    go : (o : Bool) → leb d mid ≡ o → from_bool (beq o false) ≡ cond (ltb mid d) 1 0
    go true e = rw (le-ltb mid d (leb-true d mid e))
    go false e = rw (lt-ltb mid d (leb-false d mid e))

pub counted_few : (lows : Bool) (mid d q : ℕ) → q ≡ count_front lows mid d → q ≤ 1
unfolding count_front
counted_few lows mid d q e = go (in_front lows mid d) e
  where
    go : (b : Bool) → q ≡ cond b 1 0 → q ≤ 1
    go true e = omega arith
    go false e = omega arith

abbrev pub chosen : List ℕ → ℕ → ℕ → Bool → ℕ → Bool
chosen s j mid lows x = in_front lows mid (digit_in s j x)

-- ---- the loop

pub record Splitting (s : List ℕ) (j mid : ℕ) (lows : Bool) (t₀ t : List ℕ) (k i : ℕ) : Type 0 where
  pub perm : Perm t t₀
  pub few : k ≤ i
  pub within : i ≤ length t₀
  pub front : (m : ℕ) → m < k → chosen s j mid lows (get_or t m 0) ≡ true
  pub rest : (m : ℕ) → k ≤ m → m < i → chosen s j mid lows (get_or t m 0) ≡ false

pub split_starts : (s : List ℕ) (j mid : ℕ) (lows : Bool) (t : List ℕ) → Splitting s j mid lows t t 0 0
split_starts s j mid lows t = record {
  perm = perm_same t;
  few = omega arith;
  within = omega arith;
  front = λ m l. absurd (omega arith);
  rest = λ m h l. absurd (omega arith);
}

either : {X : Type 0} (m k : ℕ) → (m ≡ k → X) → ((m ≡ k → ⊥) → X) → X
either {X} m k f g = go (eqb m k) refl
  where
    go : (o : Bool) → eqb m k ≡ o → X
    go true e = f (eqb-true m k e)
    go false e = g (eqb-false m k e)

-- two places of a table after they have changed what stands there
module _ (t : List ℕ) (k i : ℕ) (h : k ≤ i) (l : i < length t) where
  at_first : get_or (set (set t i (get_or t k 0)) k (get_or t i 0)) k 0 ≡ get_or t i 0
  at_first = get_or-set_same (set t i (get_or t k 0)) k (get_or t i 0) 0 (omega (arith, length-set t i (get_or t k 0)))

  at_second : (i ≡ k → ⊥) → get_or (set (set t i (get_or t k 0)) k (get_or t i 0)) i 0 ≡ get_or t k 0
  at_second f = get_or-set_other (set t i (get_or t k 0)) k i (get_or t i 0) 0 f ∙ get_or-set_same t i (get_or t k 0) 0 l

  at_other : (m : ℕ) → (m ≡ k → ⊥) → (m ≡ i → ⊥) → get_or (set (set t i (get_or t k 0)) k (get_or t i 0)) m 0 ≡ get_or t m 0
  at_other m f g = get_or-set_other (set t i (get_or t k 0)) k m (get_or t i 0) 0 f ∙ get_or-set_other t i m (get_or t k 0) 0 g

module _ (s : List ℕ) (j mid : ℕ) (lows : Bool) (t₀ t : List ℕ) (k i : ℕ) (w : Splitting s j mid lows t₀ t k i) where
  abbrev p : ℕ → Bool
  p = chosen s j mid lows

  pub split_length : length t ≡ length t₀
  split_length = perm_length w.perm

  -- the next entry can be asked for its digit
  pub split_asks : i < length t → Reach s j t₀ → (begin_in (get_or t i 0) + length_in (get_or t i 0) ≤ length s) × (j ≤ length_in (get_or t i 0))
  split_asks l r =
      let h : In (get_or t i 0) t₀ = perm_in w.perm (in_at t i l) in
      (r.fit (get_or t i 0) h, r.reach (get_or t i 0) h)

  pub split_ends : length t₀ ≤ i → Splits s j mid lows t₀ t k
  split_ends l = record {
    perm = w.perm;
    few = omega (arith, w.few, w.within);
    front = front_all p true k t w.front;
    rest = rest_all p false k t (λ m h n. w.rest m h (omega (arith, split_length)));
  }

  module _ (l : i < length t₀) where
    in_table : i < length t
    in_table = omega (arith, split_length)

    abbrev after : List ℕ
    after = set (set t i (get_or t k 0)) k (get_or t i 0)

    before_first : (m : ℕ) → m < k → p (get_or after m 0) ≡ true
    before_first m h = ap p (at_other t k i w.few in_table m (λ e. omega arith) (λ e. omega (arith, w.few))) ∙ w.front m h

    behind_first : (m : ℕ) → k < m → m < i + 1 → p (get_or after m 0) ≡ false
    behind_first m h n =
        either m i
        (λ e. ap (λ (a : ℕ). p (get_or after a 0)) e ∙ (ap p (at_second t k i w.few in_table (λ z. omega arith)) ∙ w.rest k (omega arith) (omega arith)))
        (λ f. ap p (at_other t k i w.few in_table m (λ e. omega arith) f) ∙ w.rest m (omega arith) (omega arith))

    at_first_is : (b : Bool) → p (get_or t i 0) ≡ b → p (get_or after k 0) ≡ b
    at_first_is b e = ap p (at_first t k i w.few in_table) ∙ e

    split_step : (b : Bool) → p (get_or t i 0) ≡ b → Splitting s j mid lows t₀ after (k + cond b 1 0) (i + 1)
    split_step true e = record {
      perm = then (swapped t k i w.few in_table) w.perm;
      few = omega (arith, w.few);
      within = omega arith;
      front = λ m h. either m k (λ z. ap (λ (a : ℕ). p (get_or after a 0)) z ∙ at_first_is true e) (λ f. before_first m (omega arith));
      rest = λ m h n. behind_first m (omega arith) n;
    }
    split_step false e = record {
      perm = then (swapped t k i w.few in_table) w.perm;
      few = omega (arith, w.few);
      within = omega arith;
      front = λ m h. before_first m (omega arith);
      rest = λ m h n. either m k (λ z. ap (λ (a : ℕ). p (get_or after a 0)) z ∙ at_first_is false e) (λ f. behind_first m (omega arith) n);
    }

    pub split_on : (d q : ℕ) → d ≡ digit_in s j (get_or t i 0) → q ≡ count_front lows mid d
        → Splitting s j mid lows t₀ (set (set t i (get_or t k 0)) k (get_or t i 0)) (k + q) (i + 1)
    unfolding count_front
    split_on d q e f = rw (f, e) (split_step (chosen s j mid lows (get_or t i 0)) refl)
