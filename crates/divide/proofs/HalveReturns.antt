-- A table divided at a digit: neither part is empty, and the larger one stands in front.
use Prim.Native.Nat.{ℕ, ◌+◌, ◌-◌, ◌≤◌, ◌<◌}
use native.Mathlib.Omega.{arith}
use mathlib.Core.Path.{◌≡◌, refl, sym, ap, ◌∙◌}
use mathlib.Core.Bool.{Bool, true, false, cond}
use mathlib.Core.List.{List, [], ◌∷◌, ◌++◌}
use lib.ListN.{length, take, drop, take-append-drop}
use lib.Seq.{take_all, length-take-le}
use lib.Dec.{ltb, leb}
use borrow.Author.Tests.{leb-true, leb-false, le-leb, lt-leb, lt-ltb, le-ltb}
use Rattle.number.proofs.Clash.{clash}
use Rattle.entries.specs.Among.{Perm, done, keep, swap, then, In, here, there}
use Rattle.entries.proofs.Perms.{perm_in, perm_back, perm_length}
use Rattle.divide.specs.Passes.{digit_in, in_front, Astride, Splits, Parts}
use Rattle.divide.proofs.SplitReturns.{chosen}

-- ---- how many go to the front, in whatever order they stand

unfoldable count : (ℕ → Bool) → List ℕ → ℕ
count p [] = 0
count p (x ∷ t) = cond (p x) 1 0 + count p t

count_perm : (p : ℕ → Bool) {t u : List ℕ} → Perm t u → count p t ≡ count p u
unfolding count
count_perm p done = refl
count_perm p (keep {x = x} q) = ap (λ (n : ℕ). cond (p x) 1 0 + n) (count_perm p q)
count_perm p (swap {x = x} {y = y} {xs = xs}) = of (cond (p x) 1 0) (cond (p y) 1 0) (count p xs)
  where
    of : (a b c : ℕ) → a + (b + c) ≡ b + (a + c)
    of a b c = omega arith
count_perm p (then q r) = count_perm p q ∙ count_perm p r

count_append : (p : ℕ → Bool) (t u : List ℕ) → count p (t ++ u) ≡ count p t + count p u
unfolding count
count_append p [] u = of (count p u)
  where
    of : (a : ℕ) → a ≡ 0 + a
    of a = omega arith
count_append p (x ∷ t) u = omega (arith, count_append p t u)

count_all : (p : ℕ → Bool) (t : List ℕ) → ((x : ℕ) → In x t → p x ≡ true) → count p t ≡ length t
unfolding count
count_all p [] f = refl
count_all p (x ∷ t) f = rw (f x here) (omega (arith, count_all p t (λ y i. f y (there i))))

count_none : (p : ℕ → Bool) (t : List ℕ) → ((x : ℕ) → In x t → p x ≡ false) → count p t ≡ 0
unfolding count
count_none p [] f = refl
count_none p (x ∷ t) f = rw (f x here) (omega (arith, count_none p t (λ y i. f y (there i))))

-- each goes to the front in one of the two ways
module _ (s : List ℕ) (j mid : ℕ) where
  one_way : (d : ℕ) → cond (in_front true mid d) 1 0 + cond (in_front false mid d) 1 0 ≡ 1
  one_way d = go (leb d mid) refl
    where
      go : (o : Bool) → leb d mid ≡ o → cond o 1 0 + cond (ltb mid d) 1 0 ≡ 1
      go true e = rw (le-ltb mid d (leb-true d mid e))
      go false e = rw (lt-ltb mid d (leb-false d mid e))

  count_both : (t : List ℕ) → count (chosen s j mid true) t + count (chosen s j mid false) t ≡ length t
  unfolding count
  count_both [] = refl
  count_both (x ∷ t) = omega (arith, one_way (digit_in s j x), count_both t)

  splits_count : (lows : Bool) (t t' : List ℕ) (k : ℕ) → Splits s j mid lows t t' k → count (chosen s j mid lows) t ≡ k
  splits_count lows t t' k w =
      let a : count (chosen s j mid lows) (take k t') ≡ length (take k t') = count_all (chosen s j mid lows) (take k t') w.front in
      let b : count (chosen s j mid lows) (drop k t') ≡ 0 = count_none (chosen s j mid lows) (drop k t') w.rest in
      let c : length (take k t') ≡ k = length-take-le k t' (omega (arith, w.few, perm_length w.perm)) in
      sym (count_perm (chosen s j mid lows) w.perm) ∙ (ap (count (chosen s j mid lows)) (sym (take-append-drop k t'))
      ∙ (count_append (chosen s j mid lows) (take k t') (drop k t')
      ∙ (let z : count (chosen s j mid lows) (take k t') + count (chosen s j mid lows) (drop k t') ≡ k = omega arith in z)))

-- ---- neither part is empty

module _ (s : List ℕ) (j mid : ℕ) (t t' : List ℕ) (k : ℕ) (a : Astride s j mid t) where
  low_in : In a.low_shown.entry t
  low_in = a.low_shown.there

  module _ (lows : Bool) (w : Splits s j mid lows t t' k) where
    all_front : length t ≤ k → (x : ℕ) → In x t → in_front lows mid (digit_in s j x) ≡ true
    all_front l x i =
        w.front x (rw (take_all k t' (omega (arith, perm_length w.perm))) (perm_in (perm_back w.perm) i))

    no_front : k ≡ 0 → (x : ℕ) → In x t → in_front lows mid (digit_in s j x) ≡ false
    no_front e x i = w.rest x (rw e (perm_in (perm_back w.perm) i))

  abbrev low_digit : ℕ
  low_digit = digit_in s j a.low_shown.entry

  abbrev high_digit : ℕ
  high_digit = digit_in s j a.high_shown.entry

  low_leb : leb low_digit mid ≡ true
  low_leb = le-leb low_digit mid (omega (arith, a.low_shown.is, a.low_is))

  low_ltb : ltb mid low_digit ≡ false
  low_ltb = le-ltb mid low_digit (omega (arith, a.low_shown.is, a.low_is))

  high_leb : leb high_digit mid ≡ false
  high_leb = lt-leb high_digit mid (omega (arith, a.high_shown.is, a.high_is))

  high_ltb : ltb mid high_digit ≡ true
  high_ltb = lt-ltb mid high_digit (omega (arith, a.high_shown.is, a.high_is))

  not_all : (lows : Bool) → Splits s j mid lows t t' k → length t ≤ k → ⊥
  not_all true w l =
      let z : true ≡ false = sym (all_front true w l a.high_shown.entry a.high_shown.there) ∙ high_leb in clash cc
  not_all false w l = let z : true ≡ false = sym (all_front false w l a.low_shown.entry low_in) ∙ low_ltb in clash cc

  not_none : (lows : Bool) → Splits s j mid lows t t' k → k ≡ 0 → ⊥
  not_none true w e = let z : false ≡ true = sym (no_front true w e a.low_shown.entry low_in) ∙ low_leb in clash cc
  not_none false w e =
      let z : false ≡ true = sym (no_front false w e a.high_shown.entry a.high_shown.there) ∙ high_ltb in clash cc

  halve_is : (lows : Bool) → Splits s j mid lows t t' k → length t ≤ k + k → Parts s j t t' k
  halve_is lows w l = record {
    perm = w.perm;
    some = some (not_none lows w);
    few = few (not_all lows w);
    most = l;
    apart = λ x e i h z.
        let y : true ≡ false = sym (w.front x i) ∙ (ap (in_front lows mid) z ∙ w.rest e h) in
        clash cc;
  }
    where
      some : (k ≡ 0 → ⊥) → 0 < k
      some f = omega arith

      few : (length t ≤ k → ⊥) → k < length t
      few f = omega arith

splits_then : (s : List ℕ) (j mid : ℕ) (o b : Bool) (t t' t'' : List ℕ) (k m : ℕ) → Splits s j mid o t t' k → Splits s j mid b t' t'' m
    → Splits s j mid b t t'' m
splits_then s j mid o b t t' t'' k m w v = record {
  perm = then v.perm w.perm;
  few = omega (arith, v.few, perm_length w.perm);
  front = v.front;
  rest = v.rest;
}

module _ (s : List ℕ) (j mid : ℕ) (t t₁ : List ℕ) (k : ℕ) (a : Astride s j mid t) (w : Splits s j mid true t t₁ k) where
  pub halve_first : length t₁ - k ≤ k → Parts s j t t₁ k
  halve_first l = halve_is s j mid t t₁ k a true w (omega (arith, perm_length w.perm))

  pub halve_second : k < length t₁ - k → (t₂ : List ℕ) (m : ℕ) → Splits s j mid false t₁ t₂ m → Parts s j t t₂ m
  halve_second l t₂ m v =
      let z : Splits s j mid false t t₂ m = splits_then s j mid true false t t₁ t₂ k m w v in
      halve_is s j mid t t₂ m a false z
      (most k m (length t) (omega (arith, perm_length w.perm))
      (omega (arith, count_both s j mid t, splits_count s j mid true t t₁ k w, splits_count s j mid false t t₂ m z)))
    where
      most : (a b n : ℕ) → a < n - a → a + b ≡ n → n ≤ b + b
      most a b n h e = omega arith
