-- Laws of lists: what holds of each element, maps, and what is put one behind the other.
use Prim.Native.Nat.{ℕ, zero, suc, ◌+◌, ◌-◌, ◌≤◌, ◌<◌}
use native.Mathlib.Omega.{arith}
use mathlib.Core.Path.{◌≡◌, refl, sym, ap, subst}
use mathlib.Core.Bool.{Bool, true, false, ◌&&◌}
use mathlib.Core.List.{List, [], ◌∷◌, ◌++◌, map}
use lib.ListN.{length, take, drop, length-append}
use lib.Seq.{take-nil}
use Rattle.number.proofs.Clash.{clash}
use Rattle.number.specs.BigEndian.{All, Bytes}
use Rattle.format.specs.Encoding.{concat}

pub append_nil : {A : Type 0} (s : List A) → s ++ [] ≡ s
append_nil [] = refl
append_nil (x ∷ s) = ap (λ l. x ∷ l) (append_nil s)

pub drop_take : {A : Type 0} (n k : ℕ) (l : List A) → drop n (take k l) ≡ take (k - n) (drop n l)
drop_take zero k l = let q : k - 0 ≡ k = omega arith in rw q
drop_take (suc n) zero l = let q : 0 - suc n ≡ 0 = omega arith in rw q
drop_take (suc n) (suc k) [] = sym (take-nil (suc k - suc n))
drop_take (suc n) (suc k) (x ∷ l) = let q : suc k - suc n ≡ k - n = omega arith in rw q (drop_take n k l)

-- ---- of each element

pub all_right : {A : Type 0} (P : A → Type 0) (s t : List A) → All P (s ++ t) → All P t
all_right P [] t h = h
all_right P (x ∷ s) t h = all_right P s t h.1

pub all_left : {A : Type 0} (P : A → Type 0) (s t : List A) → All P (s ++ t) → All P s
all_left P [] t h = tt
all_left P (x ∷ s) t h = (h.0, all_left P s t h.1)

pub all_of : {A : Type 0} (P Q : A → Type 0) → ((x : A) → P x → Q x) → (xs : List A) → All P xs → All Q xs
all_of P Q f [] h = tt
all_of P Q f (x ∷ xs) h = (f x h.0, all_of P Q f xs h.1)

pub all_pure : {A : Type 0} (Q : A → Type 0) → ((x : A) → Q x) → (xs : List A) → All Q xs
all_pure Q f [] = tt
all_pure Q f (x ∷ xs) = (f x, all_pure Q f xs)

pub all_both : {A : Type 0} (P Q : A → Type 0) (xs : List A) → All P xs → All Q xs → All (λ x. P x × Q x) xs
all_both P Q [] p q = tt
all_both P Q (x ∷ xs) p q = ((p.0, q.0), all_both P Q xs p.1 q.1)

-- ---- bytes of a part

pub bytes_right : (s t u : List ℕ) → Bytes s → s ≡ t ++ u → Bytes u
bytes_right s t u w e = all_right (λ b. b < 256) t u (subst Bytes e w)

pub bytes_left : (s t u : List ℕ) → Bytes s → s ≡ t ++ u → Bytes t
bytes_left s t u w e = all_left (λ b. b < 256) t u (subst Bytes e w)

-- ---- maps

pub map_map : {A B C : Type 0} (f : B → C) (g : A → B) (h : A → C) → ((x : A) → f (g x) ≡ h x) → (xs : List A) → map f (map g xs) ≡ map h xs
map_map f g h e [] = refl
map_map f g h e (x ∷ xs) = rw (e x, map_map f g h e xs)

pub map_same : {A : Type 0} (f : A → A) → ((x : A) → f x ≡ x) → (xs : List A) → map f xs ≡ xs
map_same f e [] = refl
map_same f e (x ∷ xs) = rw (e x, map_same f e xs)

-- ---- one behind the other

pub length_concat : {A : Type 0} (f : A → List ℕ) (xs : List A) → All (λ x. 1 ≤ length (f x)) xs → length xs ≤ length (concat f xs)
length_concat f [] h = omega arith
length_concat f (x ∷ xs) h = rw length-append (omega (arith, length_concat f xs h.1))

-- ---- both of two tests

pub and_true : (a b : Bool) → (a && b) ≡ true → (a ≡ true) × (b ≡ true)
and_true true b h = (refl, h)
and_true false b h = (h, clash cc)
