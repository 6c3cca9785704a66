-- The entries that begin before a place are moved to the front.
use Prim.Native.Nat.{ℕ, suc, ◌+◌, ◌≤◌, ◌<◌}
use native.Mathlib.Omega.{arith}
use native.Mathlib.Numerals.{add-one}
use mathlib.Core.Path.{◌≡◌, refl, sym, ap, ◌∙◌}
use mathlib.Core.Bool.{Bool, true, false, cond}
use mathlib.Core.List.{List, [], ◌∷◌, ◌++◌, append-nil}
use lib.ListN.{length, take, drop, get_or, set, length-set}
use lib.Seq.{take-suc, take-suc-set, take-set-le, drop-set-lt, drop-drop, get_or-drop, length-take-le}
use lib.Dec.{ltb}
use mir.Val.{bool_byte}
use Rattle.entries.specs.Entry.{begin_in}
use Rattle.order.specs.Arranged.{before}
use Rattle.order.specs.Passes.{Keeps}
use Rattle.order.proofs.KeptLaws.{before_append}

few_counted : (b : Bool) → cond b 1 0 ≤ 1
few_counted true = omega arith
few_counted false = omega arith

byte_is : (b : Bool) → bool_byte b ≡ cond b 1 0
byte_is true = refl
byte_is false = refl

plus_none : (a : ℕ) → a + 0 ≡ a
plus_none a = omega arith

-- ---- the loop

pub record Keeping (l n : ℕ) (t₀ t : List ℕ) (k i : ℕ) : Type 0 where
  pub length_kept : length t ≡ length t₀
  pub within : i ≤ n
  pub few : k ≤ i
  pub is : take k t ≡ before l (take i t₀)
  pub rest : drop i t ≡ drop i t₀

module _ (l n : ℕ) (t₀ : List ℕ) where
  pub keep_starts : Keeping l n t₀ t₀ 0 0
  unfolding before
  keep_starts = record { length_kept = refl; within = omega arith; few = omega arith; is = refl; rest = refl }

  module _ (t : List ℕ) (k i : ℕ) (w : Keeping l n t₀ t k i) (m : n ≤ length t₀) where
    next_value : i < n → get_or t i 0 ≡ get_or t₀ i 0
    next_value h = rw (plus_none i) at (sym (get_or-drop i t 0 0) ∙ (ap (λ (u : List ℕ). get_or u 0 0) w.rest ∙ get_or-drop i t₀ 0 0))

    next_before : i < n → before l (take (suc i) t₀) ≡ take k t ++ before l (get_or t i 0 ∷ [])
    next_before h =
        ap (before l) (take-suc t₀ i 0 (omega arith)) ∙ (before_append l (take i t₀) (get_or t₀ i 0 ∷ [])
        ∙ (ap (λ (u : List ℕ). u ++ before l (get_or t₀ i 0 ∷ [])) (sym w.is) ∙ ap (λ (x : ℕ). take k t ++ before l (x ∷ [])) (sym (next_value h))))

    kept_front : i < n → (b : Bool) → ltb (begin_in (get_or t i 0)) l ≡ b → take (k + cond b 1 0) (set t k (get_or t i 0)) ≡ take k t ++ before l (get_or t i 0 ∷ [])
    unfolding before
    kept_front h true e = rw (e, add-one k) (take-suc-set t k (get_or t i 0) (omega (arith, w.few, w.length_kept)))
    kept_front h false e = rw (e, plus_none k, append-nil (take k t)) (take-set-le k t k (get_or t i 0) (omega arith))

    pub keep_on : i < n → (b q : ℕ) → b ≡ begin_in (get_or t i 0) → q ≡ bool_byte (ltb b l) → Keeping l n t₀ (set t k (get_or t i 0)) (k + q) (i + 1)
    keep_on h b q f g =
        let e : q ≡ cond (ltb (begin_in (get_or t i 0)) l) 1 0 = g ∙ (byte_is (ltb b l) ∙ ap (λ (a : ℕ). cond (ltb a l) 1 0) f) in
        record {
          length_kept = length-set t k (get_or t i 0) ∙ w.length_kept;
          within = omega arith;
          few = omega (arith, w.few, few_counted (ltb (begin_in (get_or t i 0)) l), e);
          is = rw (e, add-one i) (kept_front h (ltb (begin_in (get_or t i 0)) l) refl ∙ sym (next_before h));
          rest = rw (add-one i) (drop-set-lt (suc i) t k (get_or t i 0) (omega (arith, w.few)) ∙ (sym (drop_drop' t) ∙ (ap (drop 1) w.rest ∙ drop_drop' t₀)));
        }
      where
        drop_drop' : (u : List ℕ) → drop 1 (drop i u) ≡ drop (suc i) u
        drop_drop' u = drop-drop 1 i u ∙ ap (λ (a : ℕ). drop a u) (add-one i)

    pub keep_ends : n ≤ i → Keeps l n k t₀ t
    keep_ends h =
        let e : i ≡ n = omega (arith, w.within) in
        let r : take k t ≡ before l (take n t₀) = rw e at w.is in
        record {
          length_kept = w.length_kept;
          number = sym (length-take-le k t (omega (arith, w.few, w.within, w.length_kept))) ∙ ap length r;
          few = omega (arith, w.few);
          is = r;
        }
