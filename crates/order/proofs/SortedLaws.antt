-- What is put in order by insertion is sorted, has the same entries, and is the only such list.
use Prim.Native.Nat.{ℕ}
use mathlib.Core.Path.{◌≡◌, refl, sym, ap, ◌∙◌}
use mathlib.Core.Bool.{Bool, true, false, cond}
use mathlib.Core.List.{List, [], ◌∷◌, ◌++◌}
use lib.ListN.{length}
use Rattle.number.proofs.Clash.{clash}
use Rattle.compare.specs.Order.{upto}
use Rattle.order.specs.Arranged.{inserted, ordered}
use Rattle.entries.specs.Among.{Perm, done, keep, swap, then, In, here, there}
use Rattle.order.specs.Sorted.{Below, Sorted}
use Rattle.compare.proofs.OrderLaws.{upto_is, is_upto_law, upto_not, upto_trans, upto_one}
use Rattle.entries.proofs.Perms.{perm_same, perm_middle, perm_both, perm_length, perm_in}

-- ---- an entry and all of a list

pub below_in : (s : List ℕ) (x : ℕ) {e : ℕ} {t : List ℕ} → Below s x t → In e t → upto s x e ≡ true
below_in s x b here = b.0
below_in s x b (there i) = below_in s x b.1 i

pub below_all : (s : List ℕ) (x : ℕ) (t : List ℕ) → ((e : ℕ) → In e t → upto s x e ≡ true) → Below s x t
below_all s x [] f = tt
below_all s x (y ∷ t) f = (f y here, below_all s x t (λ e i. f e (there i)))

pub below_trans : (s : List ℕ) (x y : ℕ) (t : List ℕ) → upto s x y ≡ true → Below s y t → Below s x t
below_trans s x y [] h b = tt
below_trans s x y (z ∷ t) h b =
    (is_upto_law s x z (upto_trans s x y z (upto_is s x y h) (upto_is s y z b.0)), below_trans s x y t h b.1)

pub below_perm : (s : List ℕ) (x : ℕ) (t u : List ℕ) → Perm u t → Below s x t → Below s x u
below_perm s x t u p b = below_all s x u (λ e i. below_in s x b (perm_in p i))

pub below_append : (s : List ℕ) (x : ℕ) (t u : List ℕ) → Below s x t → Below s x u → Below s x (t ++ u)
below_append s x [] u a b = b
below_append s x (y ∷ t) u a b = (a.0, below_append s x t u a.1 b)

-- ---- an entry inserted

module _ (s : List ℕ) (x y : ℕ) (t : List ℕ) where
  insert_here : upto s x y ≡ true → inserted s x (y ∷ t) ≡ x ∷ y ∷ t
  unfolding inserted
  insert_here h = rw h

  insert_later : upto s x y ≡ false → inserted s x (y ∷ t) ≡ y ∷ inserted s x t
  unfolding inserted
  insert_later h = rw h

insert_below : (s : List ℕ) (x : ℕ) (t : List ℕ) → Below s x t → inserted s x t ≡ x ∷ t
unfolding inserted
insert_below s x [] b = refl
insert_below s x (y ∷ t) b = insert_here s x y t b.0

insert_perm : (s : List ℕ) (x : ℕ) (t : List ℕ) → Perm (inserted s x t) (x ∷ t)
unfolding inserted
insert_perm s x [] = keep done
insert_perm s x (y ∷ t) = go (upto s x y) (insert_perm s x t)
  where
    go : (o : Bool) → Perm (inserted s x t) (x ∷ t) → Perm (cond o (x ∷ y ∷ t) (y ∷ inserted s x t)) (x ∷ y ∷ t)
    go true p = perm_same (x ∷ y ∷ t)
    go false p = then (keep p) swap

insert_sorted : (s : List ℕ) (x : ℕ) (t : List ℕ) → Sorted s t → Sorted s (inserted s x t)
unfolding inserted
insert_sorted s x [] w = (tt, tt)
insert_sorted s x (y ∷ t) w = go (upto s x y) refl (insert_sorted s x t w.1)
  where
    go : (o : Bool) → upto s x y ≡ o → Sorted s (inserted s x t) → Sorted s (cond o (x ∷ y ∷ t) (y ∷ inserted s x t))
    go true e v = ((e, below_trans s x y t e w.0), w)
    go false e v = (below_perm s y (x ∷ t) (inserted s x t) (insert_perm s x t) (is_upto_law s y x (upto_not s x y e), w.0), v)

-- an entry that is not up to y is above what is up to y
above : (s : List ℕ) (x y z : ℕ) → upto s x y ≡ true → upto s z y ≡ false → upto s z x ≡ false
above s x y z h k = go (upto s z x) refl
  where
    go : (o : Bool) → upto s z x ≡ o → o ≡ false
    go true e = sym (is_upto_law s z y (upto_trans s z x y (upto_is s z x e) (upto_is s x y h))) ∙ k
    go false e = refl

-- where both would go to the front
insert_both : (s : List ℕ) (x y : ℕ) (t : List ℕ) → inserted s x t ≡ x ∷ t → inserted s y t ≡ y ∷ t → inserted s x (y ∷ t) ≡ inserted s y (x ∷ t)
insert_both s x y t d e = go (upto s x y) refl (upto s y x) refl
  where
    go : (o : Bool) → upto s x y ≡ o → (p : Bool) → upto s y x ≡ p → inserted s x (y ∷ t) ≡ inserted s y (x ∷ t)
    go true h true k = let z : x ≡ y = upto_one s x y (upto_is s x y h) (upto_is s y x k) in rw z
    go true h false k = insert_here s x y t h ∙ (ap (λ (l : List ℕ). x ∷ l) (sym e) ∙ sym (insert_later s y x t k))
    go false h true k = insert_later s x y t h ∙ (ap (λ (l : List ℕ). y ∷ l) d ∙ sym (insert_here s y x t k))
    go false h false k = let z : upto s y x ≡ true = is_upto_law s y x (upto_not s x y h) in clash cc

insert_swap : (s : List ℕ) (x y : ℕ) (t : List ℕ) → inserted s x (inserted s y t) ≡ inserted s y (inserted s x t)
insert_swap s x y [] = rw (insert_below s x [] tt, insert_below s y [] tt) (insert_both s x y [] (insert_below s x [] tt) (insert_below s y [] tt))
insert_swap s x y (z ∷ t) = go (upto s x z) refl (upto s y z) refl (insert_swap s x y t)
  where
    go : (o : Bool) → upto s x z ≡ o → (p : Bool) → upto s y z ≡ p → inserted s x (inserted s y t) ≡ inserted s y (inserted s x t)
        → inserted s x (inserted s y (z ∷ t)) ≡ inserted s y (inserted s x (z ∷ t))
    go true h true k i = rw (insert_here s x z t h, insert_here s y z t k) (insert_both s x y (z ∷ t) (insert_here s x z t h) (insert_here s y z t k))
    go true h false k i =
        rw (
          insert_here s x z t h,
          insert_later s y z t k,
          insert_here s x z (inserted s y t) h,
          insert_later s y x (z ∷ t) (above s x z y h k),
          insert_later s y z t k,
        )
    go false h true k i =
        rw (
          insert_later s x z t h,
          insert_here s y z t k,
          insert_later s x y (z ∷ t) (above s y z x k h),
          insert_later s x z t h,
          insert_here s y z (inserted s x t) k,
        )
    go false h false k i =
        rw (insert_later s x z t h, insert_later s y z t k, insert_later s x z (inserted s y t) h, insert_later s y z (inserted s x t) k, i)

-- ---- a list put in order

pub ordered_sorted : (s t : List ℕ) → Sorted s (ordered s t)
unfolding ordered
ordered_sorted s [] = tt
ordered_sorted s (x ∷ t) = insert_sorted s x (ordered s t) (ordered_sorted s t)

pub ordered_perm : (s t : List ℕ) → Perm (ordered s t) t
unfolding ordered
ordered_perm s [] = done
ordered_perm s (x ∷ t) = then (insert_perm s x (ordered s t)) (keep (ordered_perm s t))

pub ordered_length : (s t : List ℕ) → length (ordered s t) ≡ length t
ordered_length s t = perm_length (ordered_perm s t)

-- what is sorted stays
pub ordered_is : (s t : List ℕ) → Sorted s t → ordered s t ≡ t
unfolding ordered
ordered_is s [] w = refl
ordered_is s (x ∷ t) w = rw (ordered_is s t w.1) (insert_below s x t w.0)

-- the order in which entries came does not matter
pub ordered_alike : (s : List ℕ) {t u : List ℕ} → Perm t u → ordered s t ≡ ordered s u
unfolding ordered
ordered_alike s done = refl
ordered_alike s (keep {x = x} p) = ap (inserted s x) (ordered_alike s p)
ordered_alike s (swap {x = x} {y = y} {xs = xs}) = insert_swap s x y (ordered s xs)
ordered_alike s (then p q) = ordered_alike s p ∙ ordered_alike s q

-- the only sorted list of these entries
pub ordered_only : (s t u : List ℕ) → Sorted s u → Perm u t → u ≡ ordered s t
ordered_only s t u w p = sym (ordered_is s u w) ∙ ordered_alike s p

-- an entry that is up to all others comes first
pub ordered_front : (s : List ℕ) (x : ℕ) (t : List ℕ) → Below s x t → ordered s (x ∷ t) ≡ x ∷ ordered s t
unfolding ordered
ordered_front s x t b = insert_below s x (ordered s t) (below_perm s x t (ordered s t) (ordered_perm s t) b)

-- and so from the middle
pub ordered_middle : (s : List ℕ) (y : ℕ) (xs ys : List ℕ) → Below s y (xs ++ ys) → ordered s (xs ++ (y ∷ ys)) ≡ y ∷ ordered s (xs ++ ys)
ordered_middle s y xs ys b = ordered_alike s (perm_middle y xs ys) ∙ ordered_front s y (xs ++ ys) b

-- two parts that are in order already
pub ordered_both : (s xs ys : List ℕ) → ordered s (ordered s xs ++ ordered s ys) ≡ ordered s (xs ++ ys)
ordered_both s xs ys = ordered_alike s (perm_both (ordered s ys) ys (ordered_perm s xs) (ordered_perm s ys))
