-- Entries of a table by their places: what is said of all places is said of all entries, and two change places.
use Prim.Native.Nat.{ℕ, zero, suc, ◌≤◌, ◌<◌}
use native.Mathlib.Omega.{arith}
use mathlib.Core.Path.{◌≡◌}
use mathlib.Core.Bool.{Bool}
use mathlib.Core.List.{List, [], ◌∷◌}
use lib.ListN.{length, take, drop, get_or, set}
use Rattle.entries.specs.Among.{Perm, keep, swap, then, In, here, there}
use Rattle.entries.proofs.Perms.{perm_same}

pub none_in : (x : ℕ) → In x [] → ⊥
none_in x = elim [ ]

pub in_take : {x : ℕ} (n : ℕ) (t : List ℕ) → In x (take n t) → In x t
in_take (suc n) [] x4 = elim x4 [ ]
in_take zero t x'' = elim x'' [ ]
in_take (suc n) (y ∷ t) here = here
in_take (suc n) (y ∷ t) (there i) = there (in_take n t i)

pub in_drop : {x : ℕ} (n : ℕ) (t : List ℕ) → In x (drop n t) → In x t
in_drop (suc n) [] i = elim i [ ]
in_drop zero t i = i
in_drop (suc n) (y ∷ t) i = there (in_drop n t i)

-- ---- what is said of places, and of entries

pub front_all : (p : ℕ → Bool) (b : Bool) (k : ℕ) (t : List ℕ) → ((m : ℕ) → m < k → p (get_or t m 0) ≡ b) → (x : ℕ) → In x (take k t) → p x ≡ b
front_all p b (suc k) [] f x x8 = elim x8 [ ]
front_all p b zero t f x x4 = elim x4 [ ]
front_all p b (suc k) (y ∷ t) f x here = f 0 (omega arith)
front_all p b (suc k) (y ∷ t) f x (there i) = front_all p b k t (λ m l. f (suc m) (omega arith)) x i

pub rest_all : (p : ℕ → Bool) (b : Bool) (k : ℕ) (t : List ℕ) → ((m : ℕ) → k ≤ m → m < length t → p (get_or t m 0) ≡ b) → (x : ℕ) → In x (drop k t) → p x ≡ b
rest_all p b (suc k) [] f x i = elim i [ ]
rest_all p b zero [] f x i = elim i [ ]
rest_all p b zero (y ∷ t) f x here = f 0 (omega arith) (omega arith)
rest_all p b zero (y ∷ t) f x (there i) = rest_all p b zero t (λ m k l. f (suc m) (omega arith) (omega arith)) x i
rest_all p b (suc k) (y ∷ t) f x i = rest_all p b k t (λ m h l. f (suc m) (omega arith) (omega arith)) x i

-- ---- two change places

moved_in : (x : ℕ) (t : List ℕ) (i : ℕ) → i < length t → Perm (get_or t i 0 ∷ set t i x) (x ∷ t)
moved_in x [] i l = absurd (omega arith)
moved_in x (y ∷ t) zero l = swap
moved_in x (y ∷ t) (suc i) l = then swap (then (keep (moved_in x t i (omega arith))) swap)

pub swapped : (t : List ℕ) (k i : ℕ) → k ≤ i → i < length t → Perm (set (set t i (get_or t k 0)) k (get_or t i 0)) t
swapped [] k i h l = absurd (omega arith)
swapped (x ∷ t) zero zero h l = perm_same (x ∷ t)
swapped (x ∷ t) zero (suc i) h l = moved_in x t i (omega arith)
swapped (x ∷ t) (suc k) zero h l = absurd (omega arith)
swapped (x ∷ t) (suc k) (suc i) h l = keep (swapped t k i (omega arith) (omega arith))
