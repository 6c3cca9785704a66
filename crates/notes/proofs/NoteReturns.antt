-- What the code answers, at each return.
use Prim.Native.Nat.{ℕ, suc, ◌+◌, ◌-◌, ◌≤◌, ◌<◌}
use native.Mathlib.Omega.{arith}
use mathlib.Core.Path.{◌≡◌, refl, sym, ap, ◌∙◌}
use mathlib.Core.Bool.{Bool, true, false, ◌&&◌, cond}
use mathlib.Core.List.{List, [], ◌∷◌, ◌++◌}
use lib.ListN.{length, take, set, get_or}
use lib.Seq.{take-suc, take_all}
use lib.Dec.{ltb}
use borrow.Author.Tests.{ltb-false, lt-ltb, le-ltb}
use Rattle.compare.specs.Order.{ascends}
use Rattle.entries.specs.Least.{lesser, least}
use Rattle.entries.proofs.LeastLaws.{lesser_left, lesser_right}
use Rattle.select.specs.declared.Source.{Source}
use Rattle.select.specs.Source.{Searched, searched}
use Rattle.notes.specs.declared.Notes.{Notes}
use Rattle.notes.specs.declared.Notes.TheVariants.{Few, Rising, Many}
use Rattle.notes.specs.Notes.{rises_from, rises, risen, noting, added, told}
use Rattle.notes.proofs.NoteLaws.{rises_last}

-- ---- names that ascend, from the end: y comes behind the first i, and this is left to be seen

pub record Rise (s t : List ℕ) (n x i y : ℕ) : Type 0 where
  pub inside : i ≤ length t
  pub is : rises s (take n t ++ (x ∷ [])) ≡ rises s (take i t ++ (y ∷ []))

pub rise_starts : (s t : List ℕ) (n x i : ℕ) → i ≡ lesser n (length t) → Rise s t n x i x
rise_starts s t n x i e = record { inside = rw e (lesser_right n (length t)); is = go (ltb n (length t)) refl e }
  where
    go : (o : Bool) → ltb n (length t) ≡ o → i ≡ cond o n (length t) → rises s (take n t ++ (x ∷ [])) ≡ rises s (take i t ++ (x ∷ []))
    go true q e = ap (λ (m : ℕ). rises s (take m t ++ (x ∷ []))) (sym e)
    go false q e =
        let z : take n t ≡ take i t = take_all n t (ltb-false n (length t) q) ∙ sym (take_all i t (omega arith)) in
        ap (λ (u : List ℕ). rises s (u ++ (x ∷ []))) z

module _ (s t : List ℕ) (n x i y : ℕ) (w : Rise s t n x i y) where
  behind : (p : ℕ) → suc p ≡ i → rises s (take n t ++ (x ∷ [])) ≡ rises s (take p t ++ (get_or t p 0 ∷ [])) && ascends s (get_or t p 0) y
  behind p e =
      w.is ∙ (ap (λ (u : List ℕ). rises s (u ++ (y ∷ []))) (ap (λ (m : ℕ). take m t) (sym e) ∙ take-suc t p 0 (omega (arith, w.inside)))
      ∙ rises_last s (take p t) (get_or t p 0) y)

  pub rise_falls : 0 < i → (o : Bool) → o ≡ ascends s (get_or t (i - 1) 0) y → o ≡ false → false ≡ rises s (take n t ++ (x ∷ []))
  rise_falls l o h e = sym (behind (i - 1) (omega arith) ∙ rw (← h, e) (go (rises s (take (i - 1) t ++ (get_or t (i - 1) 0 ∷ [])))))
    where
      go : (b : Bool) → b && false ≡ false
      go true = refl
      go false = refl

  pub rise_on : 0 < i → (o : Bool) → o ≡ ascends s (get_or t (i - 1) 0) y → o ≡ true → Rise s t n x (i - 1) (get_or t (i - 1) 0)
  rise_on l o h e = record {
    inside = omega (arith, w.inside);
    is = behind (i - 1) (omega arith) ∙ rw (← h, e) (go (rises s (take (i - 1) t ++ (get_or t (i - 1) 0 ∷ []))));
  }
    where
      go : (b : Bool) → b && true ≡ b
      go true = refl
      go false = refl

  pub rise_ends : i ≤ 0 → true ≡ rises s (take n t ++ (x ∷ []))
  unfolding rises_from
  rise_ends l = sym (w.is ∙ rw (let z : i ≡ 0 = omega arith in z) (go t))
    where
      go : (t : List ℕ) → rises s (take 0 t ++ (y ∷ [])) ≡ true
      go [] = refl
      go (z ∷ t) = refl

-- ---- one name more

pub risen_yes : (b : Bool) (x : ℕ) → b ≡ true → Rising x ≡ risen b x
risen_yes b x e = rw e

pub risen_no : (b : Bool) (x : ℕ) → b ≡ false → Many ≡ risen b x
risen_no b x e = rw e

module _ (s t : List ℕ) (m : Notes) (x : ℕ) where
  module _ (n : ℕ) (e : m ≡ Few n) (room : ℕ) (i : room ≡ lesser 16 (length t)) where
    pub add_inside : n < room → n < length t
    add_inside l = omega (arith, i, lesser_right 16 (length t))

    pub add_small : n < room → n + 1 ≤ 16
    add_small l = omega (arith, i, lesser_left 16 (length t))

    pub add_few : n < room → noting (Few (n + 1)) (set t n x) ≡ added s t m x
    add_few l = rw (e, lt-ltb n (lesser 16 (length t)) (omega arith))

    pub add_full : room ≤ n → (b : Bool) → b ≡ rises s (take n t ++ (x ∷ [])) → (r : Notes) → r ≡ risen b x → noting r t ≡ added s t m x
    add_full l b h r j = rw (e, le-ltb n (lesser 16 (length t)) (omega arith), ← h) (ap (λ (z : Notes). noting z t) j)

  pub add_rising : (y : ℕ) → m ≡ Rising y → (b : Bool) → b ≡ ascends s y x → (r : Notes) → r ≡ risen b x → noting r t ≡ added s t m x
  add_rising y e b i r j = rw (e, ← i) (ap (λ (z : Notes). noting z t) j)

  pub add_many : m ≡ Many → noting Many t ≡ added s t m x
  add_many e = rw e

-- ---- the end

module _ (o : Source) (s t : List ℕ) (m : Notes) where
  pub told_few : (n : ℕ) → m ≡ Few n → (r : ℕ) → r ≡ least s (take n t) → ◌≡◌ {A = Searched} (record { answer = r; table = t }) (told o s t m)
  told_few n e r h = rw e (ap (λ (z : ℕ). record { answer = z; table = t }) h)

  pub told_rising : (y : ℕ) → m ≡ Rising y → ◌≡◌ {A = Searched} (record { answer = 16777216; table = t }) (told o s t m)
  told_rising y e = rw e

  pub told_many : m ≡ Many → (w : Searched) → w ≡ searched o s t → w ≡ told o s t m
  told_many e w h = rw e h

pub ruleset rise_laws = (rise_starts, rise_falls, rise_on, rise_ends)

pub ruleset risen_laws = (risen_yes, risen_no)

pub ruleset add_laws = (add_inside, add_small, add_few, add_full, add_rising, add_many)

pub ruleset told_laws = (told_few, told_rising, told_many)
