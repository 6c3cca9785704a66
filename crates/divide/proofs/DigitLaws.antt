-- The digits of names: the key and the bytes. Names that are alike up to a digit, and what a digit tells of them.
use Prim.Native.Nat.{ℕ, zero, suc, ◌+◌, ◌-◌, ◌%◌, ◌≤◌, ◌<◌}
use native.Mathlib.Omega.{arith}
use native.Mathlib.Numerals.{add-one}
use mathlib.Core.Path.{◌≡◌, refl, sym, ap, ◌∙◌}
use mathlib.Core.List.{List, [], ◌∷◌, ◌++◌}
use lib.ListN.{length, take, drop, get_or}
use lib.Seq.{take-suc, take_all, get_or-take, get_or-drop}
use Rattle.entries.specs.Entry.{begin_in, length_in, key_in, bytes_in, name_in}
use Rattle.entries.specs.Among.{In, Perm}
use Rattle.entries.proofs.EntryLaws.{bytes_in_law, bytes_length}
use Rattle.entries.proofs.Perms.{perm_in}
use Rattle.divide.specs.Passes.{digit_in, Reach, Alike}
use Rattle.tables.proofs.FitReturns.{in_at}

-- ---- one digit

module _ (s : List ℕ) (x : ℕ) (l : begin_in x + length_in x ≤ length s) where
  pub digit_byte : (at p : ℕ) → suc p ≡ at → at ≤ length_in x → (b : ℕ) → b ≡ x % 16777216 → (r : ℕ) → r ≡ get_or s (b + p) 0 → r ≡ digit_in s at x
  digit_byte at p e k b d r f =
      rw (f, d, ← e)
      (sym (ap (λ (m : List ℕ). get_or m p 0) (bytes_in_law s (begin_in x) (length_in x) l)
      ∙ (get_or-take (length_in x) (drop (begin_in x) s) p 0 (omega arith) ∙ get_or-drop (begin_in x) s p 0)))

  pub name_length : length (name_in s x) ≡ suc (length_in x)
  name_length = ap suc (bytes_length s (begin_in x) (length_in x) l)

-- ---- names that are alike

pub alike_fewer : (s : List ℕ) (j : ℕ) (t u : List ℕ) → ((x : ℕ) → In x u → In x t) → Alike s j t → Alike s j u
alike_fewer s j t u f w = record { fit = λ x i. w.fit x (f x i); reach = λ x i. w.reach x (f x i); alike = λ x e i k. w.alike x e (f x i) (f e k) }

-- names that are alike up to a digit that one has: they all have it
module _ (s : List ℕ) (j : ℕ) (t : List ℕ) (w : Alike s j t) (y : ℕ) (h : In y t) where
  -- from the first digit on they have one key
  one_key : (x : ℕ) → In x t → 0 < j → key_in x ≡ key_in y
  one_key x i l = go j refl
    where
      head : (i : ℕ) (a b : ℕ) (p q : List ℕ) → take (suc i) (a ∷ p) ≡ take (suc i) (b ∷ q) → a ≡ b
      head i a b p q e = ap (λ (m : List ℕ). get_or m 0 0) e

      go : (k : ℕ) → j ≡ k → key_in x ≡ key_in y
      go zero e = absurd (omega arith)
      go (suc k) e = head k (key_in x) (key_in y) (bytes_in s x) (bytes_in s y) (rw e at (w.alike x y i h))

  pub alike_reach : j ≤ length_in y → Reach s j t
  alike_reach l = record { fit = w.fit; reach = λ x i. go x i j refl }
    where
      go : (x : ℕ) → In x t → (k : ℕ) → j ≡ k → j ≤ length_in x
      go x i zero e = omega arith
      go x i (suc k) e = rw (one_key x i (omega arith)) l

  -- where one has no such digit they are one
  pub alike_end : length_in y < j → (x e : ℕ) → In x t → In e t → name_in s x ≡ name_in s e
  alike_end l x e i k = sym (whole x i) ∙ (w.alike x e i k ∙ whole e k)
    where
      ends : (z : ℕ) → In z t → suc (length_in z) ≤ j
      ends z i = rw (one_key z i (omega arith)) l

      whole : (z : ℕ) → In z t → take j (name_in s z) ≡ name_in s z
      whole z i = take_all j (name_in s z) (omega (arith, name_length s z (w.fit z i), ends z i))

  -- one digit more
  pub alike_on : Reach s j t → ((x e : ℕ) → In x t → In e t → digit_in s j x ≡ digit_in s j e) → Alike s (j + 1) t
  alike_on r f = record {
    fit = w.fit;
    reach = λ x i. omega (arith, r.reach x i);
    alike = λ x e i k. more x i ∙ (both x e i k ∙ sym (more e k));
  }
    where
      more : (z : ℕ) → In z t → take (j + 1) (name_in s z) ≡ take j (name_in s z) ++ (digit_in s j z ∷ [])
      more z i =
          ap (λ (n : ℕ). take n (name_in s z)) (add-one j)
          ∙ take-suc (name_in s z) j 0 (omega (arith, name_length s z (w.fit z i), r.reach z i))

      both : (x e : ℕ) → In x t → In e t → take j (name_in s x) ++ (digit_in s j x ∷ []) ≡ take j (name_in s e) ++ (digit_in s j e ∷ [])
      both x e i k =
          ap (λ (m : List ℕ). m ++ (digit_in s j x ∷ [])) (w.alike x e i k) ∙ ap (λ (d : ℕ). take j (name_in s e) ++ (d ∷ [])) (f x e i k)

pub other_name : (s : List ℕ) (j x e : ℕ) → (digit_in s j x ≡ digit_in s j e → ⊥) → name_in s x ≡ name_in s e → ⊥
other_name s j x e f h = f (ap (λ (m : List ℕ). get_or m j 0) h)

pub reach_perm : (s : List ℕ) (j : ℕ) (t u : List ℕ) → Perm u t → Reach s j t → Reach s j u
reach_perm s j t u p w = record { fit = λ x i. w.fit x (perm_in p i); reach = λ x i. w.reach x (perm_in p i) }

-- an entry of the table can be asked for its digit
pub reach_at : (s : List ℕ) (j : ℕ) (t : List ℕ) → Reach s j t → (i : ℕ) → i < length t
    → (begin_in (get_or t i 0) + length_in (get_or t i 0) ≤ length s) × (j ≤ length_in (get_or t i 0))
reach_at s j t w i l = (w.fit (get_or t i 0) (in_at t i l), w.reach (get_or t i 0) (in_at t i l))

-- the entries behind the first
pub behind_first : (t : List ℕ) (i : ℕ) → get_or (take (length t - 1) (drop 1 t)) i 0 ≡ get_or t (i + 1) 0
behind_first [] i = refl
behind_first (x ∷ u) i = rw (take_all (length (x ∷ u) - 1) u (omega arith), add-one i)

pub behind_within : (t : List ℕ) (i : ℕ) → i < length (take (length t - 1) (drop 1 t)) → i + 1 < length t
behind_within [] i l = absurd (omega arith)
behind_within (x ∷ u) i l = omega (arith, rw (take_all (length (x ∷ u) - 1) u (omega arith)) at l)
