-- Where the first twin begins: it depends on the entries and not on their order.
use Prim.Native.Nat.{ℕ, ◌≤◌, ◌<◌}
use native.Mathlib.Omega.{arith}
use mathlib.Core.Path.{◌≡◌, refl, sym, ap, ◌∙◌}
use mathlib.Core.Bool.{Bool, true, false, cond, ◌||◌}
use mathlib.Core.List.{List, [], ◌∷◌}
use lib.Dec.{ltb}
use borrow.Author.Tests.{ltb-true, ltb-false, lt-ltb}
use Rattle.number.proofs.Clash.{clash}
use Rattle.text.specs.Equal.{equal}
use Rattle.text.proofs.Laws.{and_both, equal_refl, equal_is}
use Rattle.entries.specs.Entry.{begin_in, name_in, key_in}
use Rattle.entries.specs.Least.{same_name, is_first, is_twin, lesser, least_of, least}
use Rattle.entries.specs.Among.{Perm, In, here, there}
use Rattle.entries.proofs.Perms.{perm_in, perm_back}

pub begin_below : (x : ℕ) → begin_in x < 16777216
begin_below x = omega arith

-- ---- two entries of one name

pub named_same : (s : List ℕ) (x y : ℕ) → same_name s x y ≡ true → name_in s x ≡ name_in s y
named_same s x y h = equal_is (name_in s x) (name_in s y) h

pub same_named : (s : List ℕ) (x y : ℕ) → name_in s x ≡ name_in s y → same_name s x y ≡ true
same_named s x y e = ap (λ (n : List ℕ). equal (name_in s x) n) (sym e) ∙ equal_refl (name_in s x)

pub name_key : (s : List ℕ) (x y : ℕ) → name_in s x ≡ name_in s y → key_in x ≡ key_in y
name_key s x y e = cc

module _ (s : List ℕ) (x y : ℕ) where
  pub first_is : is_first s x y ≡ true → (begin_in x < begin_in y) × (name_in s x ≡ name_in s y)
  unfolding is_first
  first_is h =
      let w = and_both (ltb (begin_in x) (begin_in y)) (same_name s x y) h in
      (ltb-true (begin_in x) (begin_in y) w.0, named_same s x y w.1)

  pub is_first_law : begin_in x < begin_in y → name_in s x ≡ name_in s y → is_first s x y ≡ true
  unfolding is_first
  is_first_law l e = rw (lt-ltb (begin_in x) (begin_in y) l) (same_named s x y e)

  -- of one name, and if they begin at one place, they are one
  pub one_begin : name_in s x ≡ name_in s y → begin_in x ≡ begin_in y → x ≡ y
  one_begin e i = omega (arith, name_key s x y e)

-- ---- twins

pub twin_in : (s t : List ℕ) (x e : ℕ) → In x t → is_first s x e ≡ true → is_twin s t e ≡ true
unfolding is_twin
twin_in s [] x e x4 h = elim x4 [ ]
twin_in s (y ∷ t) x e here h = rw h
twin_in s (y ∷ t) x e (there i) h = go (is_first s y e) (twin_in s t x e i h)
  where
    go : (o : Bool) → is_twin s t e ≡ true → o || is_twin s t e ≡ true
    go true q = refl
    go false q = q

pub twin_is : {X : Type 0} (s t : List ℕ) (e : ℕ) → is_twin s t e ≡ true → ((x : ℕ) → In x t → is_first s x e ≡ true → X) → X
unfolding is_twin
twin_is s [] e h f = clash cc
twin_is {X} s (y ∷ t) e h f = go (is_first s y e) refl h (λ q. twin_is s t e q (λ x i k. f x (there i) k))
  where
    go : (o : Bool) → is_first s y e ≡ o → o || is_twin s t e ≡ true → (is_twin s t e ≡ true → X) → X
    go true k h g = f y here k
    go false k h g = g h

-- ---- the least

pub lesser_left : (a b : ℕ) → lesser a b ≤ a
lesser_left a b = go (ltb a b) refl
  where
    go : (o : Bool) → ltb a b ≡ o → cond o a b ≤ a
    go true e = omega arith
    go false e = ltb-false a b e

pub lesser_right : (a b : ℕ) → lesser a b ≤ b
lesser_right a b = go (ltb a b) refl
  where
    go : (o : Bool) → ltb a b ≡ o → cond o a b ≤ b
    go true e = omega (arith, ltb-true a b e)
    go false e = omega arith

pub lesser_both : (k a b : ℕ) → k ≤ a → k ≤ b → k ≤ lesser a b
lesser_both k a b l m = go (ltb a b)
  where
    go : (o : Bool) → k ≤ cond o a b
    go true = l
    go false = m

-- it is no more than the beginning of a twin, and what is no more than any of these is no more than it
least_least : (s t : List ℕ) (e : ℕ) (es : List ℕ) → In e es → is_twin s t e ≡ true → least_of s t es ≤ begin_in e
unfolding least_of
least_least s t e [] x'' h = elim x'' [ ]
least_least s t e (d ∷ es) here h = rw h (lesser_left (begin_in e) (least_of s t es))
least_least s t e (d ∷ es) (there i) h = go (is_twin s t d) (least_least s t e es i h)
  where
    go : (o : Bool) → least_of s t es ≤ begin_in e → cond o (lesser (begin_in d) (least_of s t es)) (least_of s t es) ≤ begin_in e
    go true l = omega (arith, lesser_right (begin_in d) (least_of s t es))
    go false l = l

greatest : (s t es : List ℕ) (k : ℕ) → k ≤ 16777216 → ((e : ℕ) → In e es → is_twin s t e ≡ true → k ≤ begin_in e) → k ≤ least_of s t es
unfolding least_of
greatest s t [] k l f = l
greatest s t (e ∷ es) k l f = go (is_twin s t e) refl (greatest s t es k l (λ d i h. f d (there i) h))
  where
    go : (o : Bool) → is_twin s t e ≡ o → k ≤ least_of s t es → k ≤ cond o (lesser (begin_in e) (least_of s t es)) (least_of s t es)
    go true h m = lesser_both k (begin_in e) (least_of s t es) (f e here h) m
    go false h m = m

pub least_twin_law : (s t : List ℕ) (e : ℕ) → In e t → is_twin s t e ≡ true → least s t ≤ begin_in e
least_twin_law s t e i h = least_least s t e t i h

leasts_bound : (s t es : List ℕ) → least_of s t es ≤ 16777216
unfolding least_of
leasts_bound s t [] = omega arith
leasts_bound s t (e ∷ es) = go (is_twin s t e) (leasts_bound s t es)
  where
    go : (o : Bool) → least_of s t es ≤ 16777216 → cond o (lesser (begin_in e) (least_of s t es)) (least_of s t es) ≤ 16777216
    go true l = omega (arith, lesser_right (begin_in e) (least_of s t es))
    go false l = l

pub least_bound : (s t : List ℕ) → least s t ≤ 16777216
least_bound s t = leasts_bound s t t

pub least_over_law : (s t : List ℕ) (k : ℕ) → k ≤ 16777216 → ((e x : ℕ) → In e t → In x t → is_first s x e ≡ true → k ≤ begin_in e) → k ≤ least s t
least_over_law s t k l f = greatest s t t k l (λ e i h. twin_is s t e h (λ x j q. f e x i j q))

pub least_pair : (s t : List ℕ) (e x : ℕ) → In e t → In x t → is_first s x e ≡ true → least s t ≤ begin_in e
least_pair s t e x i j h = least_twin_law s t e i (twin_in s t x e j h)

-- of more entries it is no more
pub least_more : (s t u : List ℕ) → ((e : ℕ) → In e t → In e u) → least s u ≤ least s t
least_more s t u f = least_over_law s t (least s u) (least_bound s u) (λ e x i j h. least_pair s u e x (f e i) (f x j) h)

pub least_alike : (s t u : List ℕ) → Perm t u → least s t ≡ least s u
least_alike s t u p =
    let a : least s u ≤ least s t = least_more s t u (λ e i. perm_in p i) in
    let b : least s t ≤ least s u = least_more s u t (λ e i. perm_in (perm_back p) i) in
    omega arith

-- where there is none, no entry is a twin
pub least_none : (s t : List ℕ) (e : ℕ) → least s t ≡ 16777216 → In e t → is_twin s t e ≡ false
least_none s t e q i = go (is_twin s t e) refl
  where
    go : (o : Bool) → is_twin s t e ≡ o → o ≡ false
    go true h = absurd (omega (arith, least_twin_law s t e i h, begin_below e))
    go false h = refl

-- where it is less, an entry that is a twin begins there
leasts_found : {X : Type 0} (s t es : List ℕ) → least_of s t es < 16777216
    → ((e : ℕ) → In e es → is_twin s t e ≡ true → begin_in e ≡ least_of s t es → X) → X
unfolding least_of
leasts_found s t [] l f = absurd (omega arith)
leasts_found {X} s t (d ∷ es) l f = go (is_twin s t d) refl (ltb (begin_in d) (least_of s t es)) l f (leasts_found s t es)
  where
    go : (o : Bool) → is_twin s t d ≡ o → (p : Bool) → cond o (cond p (begin_in d) (least_of s t es)) (least_of s t es) < 16777216
        → ((e : ℕ) → In e (d ∷ es) → is_twin s t e ≡ true → begin_in e ≡ cond o (cond p (begin_in d) (least_of s t es)) (least_of s t es) → X)
        → (least_of s t es < 16777216 → ((e : ℕ) → In e es → is_twin s t e ≡ true → begin_in e ≡ least_of s t es → X) → X) → X
    go true h true l f g = f d here h refl
    go true h false l f g = g l (λ e i k q. f e (there i) k q)
    go false h p l f g = g l (λ e i k q. f e (there i) k q)

pub least_found : {X : Type 0} (s t : List ℕ) → least s t < 16777216 → ((e : ℕ) → In e t → is_twin s t e ≡ true → begin_in e ≡ least s t → X) → X
least_found s t l f = leasts_found s t t l f
