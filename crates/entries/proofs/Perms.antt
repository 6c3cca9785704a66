-- The same entries in another order.
use Prim.Native.Nat.{ℕ, suc}
use mathlib.Core.Path.{◌≡◌, refl, ap, ◌∙◌}
use mathlib.Core.List.{List, [], ◌∷◌, ◌++◌}
use lib.ListN.{length}
use Rattle.entries.specs.Among.{Perm, done, keep, swap, then, In, here, there}

pub perm_same : (xs : List ℕ) → Perm xs xs
perm_same [] = done
perm_same (x ∷ xs) = keep (perm_same xs)

pub perm_back : {xs ys : List ℕ} → Perm xs ys → Perm ys xs
perm_back done = done
perm_back (keep p) = keep (perm_back p)
perm_back swap = swap
perm_back (then p q) = then (perm_back q) (perm_back p)

pub perm_middle : (y : ℕ) (xs ys : List ℕ) → Perm (xs ++ (y ∷ ys)) (y ∷ (xs ++ ys))
perm_middle y [] ys = perm_same (y ∷ ys)
perm_middle y (x ∷ xs) ys = then (keep (perm_middle y xs ys)) swap

perm_front : (xs : List ℕ) {ys zs : List ℕ} → Perm ys zs → Perm (xs ++ ys) (xs ++ zs)
perm_front [] p = p
perm_front (x ∷ xs) p = keep (perm_front xs p)

perm_behind : {xs ys : List ℕ} (zs : List ℕ) → Perm xs ys → Perm (xs ++ zs) (ys ++ zs)
perm_behind zs done = perm_same zs
perm_behind zs (keep p) = keep (perm_behind zs p)
perm_behind zs swap = swap
perm_behind zs (then p q) = then (perm_behind zs p) (perm_behind zs q)

pub perm_both : {ws xs : List ℕ} (ys zs : List ℕ) → Perm ws xs → Perm ys zs → Perm (ws ++ ys) (xs ++ zs)
perm_both {ws} {xs} ys zs p q = then (perm_behind ys p) (perm_front xs q)

pub perm_length : {xs ys : List ℕ} → Perm xs ys → length xs ≡ length ys
perm_length done = refl
perm_length (keep p) = ap suc (perm_length p)
perm_length swap = refl
perm_length (then p q) = perm_length p ∙ perm_length q

pub perm_in : {e : ℕ} {xs ys : List ℕ} → Perm xs ys → In e xs → In e ys
perm_in {e = e} done i = elim i [ ]
perm_in (keep p) here = here
perm_in (keep p) (there i) = there (perm_in p i)
perm_in swap here = there here
perm_in swap (there here) = here
perm_in swap (there (there i)) = there (there i)
perm_in (then p q) i = perm_in q (perm_in p i)

-- ---- an entry among those of two lists

pub in_left : {e : ℕ} (xs ys : List ℕ) → In e xs → In e (xs ++ ys)
in_left {e = e} [] ys x' = elim x' [ ]
in_left (x ∷ xs) ys here = here
in_left (x ∷ xs) ys (there i) = there (in_left xs ys i)

pub in_last : (xs : List ℕ) (y : ℕ) → In y (xs ++ (y ∷ []))
in_last [] y = here
in_last (x ∷ xs) y = there (in_last xs y)

pub in_cases : {X : Type 0} (e : ℕ) (xs : List ℕ) (y : ℕ) → In e (xs ++ (y ∷ [])) → (In e xs → X) → (e ≡ y → X) → X
in_cases {X = X} e [] y (there i) f g = elim i [ ]
in_cases e [] y here f g = g refl
in_cases e (x ∷ xs) y here f g = f here
in_cases e (x ∷ xs) y (there i) f g = in_cases e xs y i (λ j. f (there j)) g
