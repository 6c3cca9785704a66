-- The entries that begin before a place; and those that are kept, of which no two have one name.
use Prim.Native.Nat.{ℕ, ◌≤◌, ◌<◌}
use native.Mathlib.Omega.{arith}
use mathlib.Core.Path.{◌≡◌, refl, sym, ap, ◌∙◌}
use mathlib.Core.Bool.{Bool, true, false, cond}
use mathlib.Core.List.{List, [], ◌∷◌, ◌++◌}
use lib.ListN.{length}
use lib.Dec.{ltb}
use borrow.Author.Tests.{ltb-true, ltb-false, lt-ltb, le-ltb}
use Rattle.entries.specs.Entry.{begin_in, name_in}
use Rattle.entries.specs.Least.{same_name, least}
use Rattle.order.specs.Arranged.{before, kept, ordered}
use Rattle.entries.specs.Among.{Perm, done, keep, swap, then, In, here, there}
use Rattle.order.specs.Sorted.{Below, Sorted}
use Rattle.entries.proofs.Perms.{perm_same, perm_length}
use Rattle.order.proofs.SortedLaws.{ordered_sorted, ordered_perm, ordered_only}
use Rattle.entries.proofs.LeastLaws.{begin_below, named_same, is_first_law, least_pair}

module _ (p e : ℕ) (es : List ℕ) where
  pub before_in : begin_in e < p → before p (e ∷ es) ≡ e ∷ before p es
  unfolding before
  before_in l = rw (lt-ltb (begin_in e) p l)

  pub before_out : p ≤ begin_in e → before p (e ∷ es) ≡ before p es
  unfolding before
  before_out l = rw (le-ltb (begin_in e) p l)

pub before_append : (p : ℕ) (xs ys : List ℕ) → before p (xs ++ ys) ≡ before p xs ++ before p ys
unfolding before
before_append p [] ys = refl
before_append p (x ∷ xs) ys = go (ltb (begin_in x) p) (before_append p xs ys)
  where
    go : (o : Bool) → before p (xs ++ ys) ≡ before p xs ++ before p ys
        → cond o (x ∷ before p (xs ++ ys)) (before p (xs ++ ys)) ≡ cond o (x ∷ before p xs) (before p xs) ++ before p ys
    go true e = ap (λ (l : List ℕ). x ∷ l) e
    go false e = e

pub before_perm : (p : ℕ) {xs ys : List ℕ} → Perm xs ys → Perm (before p xs) (before p ys)
unfolding before
before_perm p done = done
before_perm p (keep {x = x} {xs = xs} {ys = ys} q) = go (ltb (begin_in x) p) (before_perm p q)
  where
    go : (o : Bool) → Perm (before p xs) (before p ys) → Perm (cond o (x ∷ before p xs) (before p xs)) (cond o (x ∷ before p ys) (before p ys))
    go true r = keep r
    go false r = r
before_perm p (swap {x = x} {y = y} {xs = xs}) = go (ltb (begin_in x) p) (ltb (begin_in y) p)
  where
    go : (a b : Bool) → Perm (cond a (x ∷ cond b (y ∷ before p xs) (before p xs)) (cond b (y ∷ before p xs) (before p xs)))
        (cond b (y ∷ cond a (x ∷ before p xs) (before p xs)) (cond a (x ∷ before p xs) (before p xs)))
    go true true = swap
    go true false = perm_same (x ∷ before p xs)
    go false true = perm_same (y ∷ before p xs)
    go false false = perm_same (before p xs)
before_perm p (then q r) = then (before_perm p q) (before_perm p r)

in_cons : {X : Type 0} (e x : ℕ) (t : List ℕ) → In e (x ∷ t) → (e ≡ x → X) → (In e t → X) → X
in_cons e x t here f g = f refl
in_cons e x t (there i) f g = g i

pub in_before : (p e : ℕ) (t : List ℕ) → In e (before p t) → In e t × (begin_in e < p)
unfolding before
in_before p e [] i = elim i [ ]
in_before p e (x ∷ t) i = go (ltb (begin_in x) p) refl i (in_before p e t)
  where
    go : (o : Bool) → ltb (begin_in x) p ≡ o → In e (cond o (x ∷ before p t) (before p t)) → (In e (before p t) → In e t × (begin_in e < p))
        → In e (x ∷ t) × (begin_in e < p)
    go true h i f = in_cons e x (before p t) i (λ q. (rw q here, rw q (ltb-true (begin_in x) p h))) (λ j. let w = f j in (there w.0, w.1))
    go false h i f = let w = f i in (there w.0, w.1)

pub before_has : (p e : ℕ) (t : List ℕ) → In e t → begin_in e < p → In e (before p t)
unfolding before
before_has p e [] x'' l = elim x'' [ ]
before_has p e (x ∷ t) here l = rw (lt-ltb (begin_in e) p l) here
before_has p e (x ∷ t) (there i) l = go (ltb (begin_in x) p) (before_has p e t i l)
  where
    go : (o : Bool) → In e (before p t) → In e (cond o (x ∷ before p t) (before p t))
    go true j = there j
    go false j = j

below_before : (s : List ℕ) (p x : ℕ) (t : List ℕ) → Below s x t → Below s x (before p t)
unfolding before
below_before s p x [] b = tt
below_before s p x (y ∷ t) b = go (ltb (begin_in y) p) (below_before s p x t b.1)
  where
    go : (o : Bool) → Below s x (before p t) → Below s x (cond o (y ∷ before p t) (before p t))
    go true c = (b.0, c)
    go false c = c

sorted_before : (s : List ℕ) (p : ℕ) (t : List ℕ) → Sorted s t → Sorted s (before p t)
unfolding before
sorted_before s p [] w = tt
sorted_before s p (x ∷ t) w = go (ltb (begin_in x) p) (sorted_before s p t w.1)
  where
    go : (o : Bool) → Sorted s (before p t) → Sorted s (cond o (x ∷ before p t) (before p t))
    go true v = (below_before s p x t w.0, v)
    go false v = v

-- taken out of what is in order they are in order
pub before_ordered : (s : List ℕ) (p : ℕ) (t : List ℕ) → before p (ordered s t) ≡ ordered s (before p t)
before_ordered s p t =
    ordered_only s (before p t) (before p (ordered s t)) (sorted_before s p (ordered s t) (ordered_sorted s t)) (before_perm p (ordered_perm s t))

-- and as many
pub before_length : (s : List ℕ) (p : ℕ) (t : List ℕ) → length (before p (ordered s t)) ≡ length (before p t)
before_length s p t = perm_length (before_perm p (ordered_perm s t))

-- ---- what is kept

pub kept_in : (s : List ℕ) (e : ℕ) (t : List ℕ) → In e (kept s t) → In e t
kept_in s e t i = (in_before (least s t) e t i).0

pub kept_before : (s : List ℕ) (e : ℕ) (t : List ℕ) → In e (kept s t) → begin_in e < least s t
kept_before s e t i = (in_before (least s t) e t i).1

pub kept_has : (s : List ℕ) (e : ℕ) (t : List ℕ) → In e t → begin_in e < least s t → In e (kept s t)
kept_has s e t i l = before_has (least s t) e t i l

-- entries of one name begin at one place
pub kept_once : (s t : List ℕ) (x y : ℕ) → In x (kept s t) → In y (kept s t) → same_name s x y ≡ true → begin_in x ≡ begin_in y
kept_once s t x y i j h =
    let a : begin_in y ≤ begin_in x = no_twin x y i j (named_same s x y h) in
    let b : begin_in x ≤ begin_in y = no_twin y x j i (sym (named_same s x y h)) in
    omega arith
  where
    no_twin : (x y : ℕ) → In x (kept s t) → In y (kept s t) → name_in s x ≡ name_in s y → begin_in y ≤ begin_in x
    no_twin x y i j e = go (ltb (begin_in x) (begin_in y)) refl
      where
        go : (o : Bool) → ltb (begin_in x) (begin_in y) ≡ o → begin_in y ≤ begin_in x
        go true q = absurd (omega (
          arith,
          kept_before s y t j,
          least_pair s t y x (kept_in s y t j) (kept_in s x t i) (is_first_law s x y (ltb-true (begin_in x) (begin_in y) q) e),
        ))
        go false q = ltb-false (begin_in x) (begin_in y) q

-- if no entry is a twin, all are kept
pub kept_all : (s t : List ℕ) → least s t ≡ 16777216 → kept s t ≡ t
unfolding before
kept_all s t e = ap (λ (p : ℕ). before p t) e ∙ all t
  where
    all : (t : List ℕ) → before 16777216 t ≡ t
    all [] = refl
    all (x ∷ t) = before_in 16777216 x t (begin_below x) ∙ ap (λ (l : List ℕ). x ∷ l) (all t)
