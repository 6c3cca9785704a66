-- The first twin of entries in two parts that have no name in common is that of one part or of the other.
use Prim.Native.Nat.{ℕ, ◌≤◌}
use native.Mathlib.Omega.{arith}
use mathlib.Core.Path.{◌≡◌, sym}
use mathlib.Core.Bool.{true}
use mathlib.Core.List.{List, [], ◌∷◌, ◌++◌}
use Rattle.entries.specs.Entry.{begin_in, name_in}
use Rattle.entries.specs.Least.{is_first, lesser, least}
use Rattle.entries.specs.Among.{Perm, In, here, there}
use Rattle.entries.proofs.Perms.{perm_in, perm_back, in_left}
use Rattle.entries.proofs.LeastLaws.{first_is, lesser_left, lesser_right, lesser_both, least_bound, least_over_law, least_pair, least_more}

in_right : {e : ℕ} (xs ys : List ℕ) → In e ys → In e (xs ++ ys)
in_right [] ys i = i
in_right (x ∷ xs) ys i = there (in_right xs ys i)

in_either : {X : Type 0} (e : ℕ) (xs ys : List ℕ) → In e (xs ++ ys) → (In e xs → X) → (In e ys → X) → X
in_either e [] ys i f g = g i
in_either e (x ∷ xs) ys here f g = f here
in_either e (x ∷ xs) ys (there i) f g = in_either e xs ys i (λ j. f (there j)) g

module _ (s t xs ys : List ℕ) (p : Perm (xs ++ ys) t) (apart : (x e : ℕ) → In x xs → In e ys → name_in s x ≡ name_in s e → ⊥) where
  less_than_parts : least s t ≤ lesser (least s xs) (least s ys)
  less_than_parts =
      lesser_both (least s t) (least s xs) (least s ys)
      (least_more s xs t (λ e i. perm_in p (in_left xs ys i)))
      (least_more s ys t (λ e i. perm_in p (in_right xs ys i)))

  parts_bound : lesser (least s xs) (least s ys) ≤ 16777216
  parts_bound = omega (arith, lesser_left (least s xs) (least s ys), least_bound s xs)

  in_one_part : (e x : ℕ) → In e t → In x t → is_first s x e ≡ true → lesser (least s xs) (least s ys) ≤ begin_in e
  in_one_part e x i j h =
      in_either e xs ys (perm_in (perm_back p) i)
      (λ a. in_either x xs ys (perm_in (perm_back p) j)
      (λ b. omega (arith, lesser_left (least s xs) (least s ys), least_pair s xs e x a b h))
      (λ b. absurd (apart e x a b (sym (first_is s x e h).1))))
      (λ a. in_either x xs ys (perm_in (perm_back p) j)
      (λ b. absurd (apart x e b a (first_is s x e h).1))
      (λ b. omega (arith, lesser_right (least s xs) (least s ys), least_pair s ys e x a b h)))

  pub least_apart : lesser (least s xs) (least s ys) ≡ least s t
  least_apart =
      let a : lesser (least s xs) (least s ys) ≤ least s t = least_over_law s t (lesser (least s xs) (least s ys)) parts_bound in_one_part in
      let b : least s t ≤ lesser (least s xs) (least s ys) = less_than_parts in
      omega arith

-- ---- the lesser of two places

pub lesser_swap : (a b : ℕ) → lesser a b ≡ lesser b a
lesser_swap a b =
    let l : lesser a b ≤ lesser b a = lesser_both (lesser a b) b a (lesser_right a b) (lesser_left a b) in
    let r : lesser b a ≤ lesser a b = lesser_both (lesser b a) a b (lesser_right b a) (lesser_left b a) in
    omega arith

pub lesser_assoc : (a b c : ℕ) → lesser (lesser a b) c ≡ lesser a (lesser b c)
lesser_assoc a b c =
    let l : lesser (lesser a b) c ≤ lesser a (lesser b c) =
    lesser_both (lesser (lesser a b) c) a (lesser b c)
    (omega (arith, lesser_left (lesser a b) c, lesser_left a b))
    (lesser_both (lesser (lesser a b) c) b c (omega (arith, lesser_left (lesser a b) c, lesser_right a b)) (lesser_right (lesser a b) c)) in
    let r : lesser a (lesser b c) ≤ lesser (lesser a b) c =
    lesser_both (lesser a (lesser b c)) (lesser a b) c
    (lesser_both (lesser a (lesser b c)) a b (lesser_left a (lesser b c)) (omega (arith, lesser_right a (lesser b c), lesser_left b c)))
    (omega (arith, lesser_right a (lesser b c), lesser_right b c)) in
    omega arith

pub lesser_none : (a : ℕ) → a ≤ 16777216 → lesser a 16777216 ≡ a
lesser_none a l =
    let x : lesser a 16777216 ≤ a = lesser_left a 16777216 in
    let y : a ≤ lesser a 16777216 = lesser_both a a 16777216 (omega arith) l in
    omega arith
