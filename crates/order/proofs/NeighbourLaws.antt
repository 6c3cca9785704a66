-- One more entry behind sorted ones: if it is a twin, then the last of them has its name.
use Prim.Native.Nat.{ℕ, ◌≤◌}
use native.Mathlib.Omega.{arith}
use mathlib.Core.Path.{◌≡◌, refl, sym, ap, ◌∙◌}
use mathlib.Core.Bool.{Bool, true, false}
use mathlib.Core.List.{List, [], ◌∷◌, ◌++◌}
use lib.Dec.{ltb}
use borrow.Author.Tests.{ltb-true, ltb-false}
use Rattle.number.proofs.Clash.{clash}
use Rattle.entries.specs.Entry.{begin_in, name_in}
use Rattle.compare.specs.Order.{upto}
use Rattle.entries.specs.Least.{is_first, lesser, least}
use Rattle.entries.specs.Among.{In, here, there}
use Rattle.order.specs.Sorted.{Below, Sorted}
use Rattle.entries.proofs.Perms.{in_left, in_last, in_cases}
use Rattle.compare.proofs.OrderLaws.{Upto, upto_is, upto_begins, between}
use Rattle.entries.proofs.LeastLaws.{first_is, is_first_law, one_begin, lesser_left, lesser_right, lesser_both}
use Rattle.entries.proofs.LeastLaws.{least_bound, least_over_law, least_pair, least_more}

-- in a sorted list all before the last are up to it
pub sorted_last : (s xs : List ℕ) (y : ℕ) → Sorted s (xs ++ (y ∷ [])) → (z : ℕ) → In z xs → Upto s z y
sorted_last s [] y w z x'' = elim x'' [ ]
sorted_last s (x ∷ xs) y w z here = upto_is s x y (last_below x xs w.0)
  where
    last_below : (x : ℕ) (xs : List ℕ) → Below s x (xs ++ (y ∷ [])) → upto s x y ≡ true
    last_below x [] b = b.0
    last_below x (v ∷ xs) b = last_below x xs b.1
sorted_last s (x ∷ xs) y w z (there i) = sorted_last s xs y w.1 z i

below_left : (s : List ℕ) (x : ℕ) (xs ys : List ℕ) → Below s x (xs ++ ys) → Below s x xs
below_left s x [] ys b = tt
below_left s x (y ∷ xs) ys b = (b.0, below_left s x xs ys b.1)

pub sorted_left : (s xs ys : List ℕ) → Sorted s (xs ++ ys) → Sorted s xs
sorted_left s [] ys w = tt
sorted_left s (x ∷ xs) ys w = (below_left s x xs ys w.0, sorted_left s xs ys w.1)

-- ---- entries f, all up to x, which is one of them; and y behind them

module _ (s f : List ℕ) (x y : ℕ) (i : In x f) (bx : (z : ℕ) → In z f → Upto s z x) (by : (z : ℕ) → In z f → Upto s z y) where
  -- whatever tells that e is a twin, k is no more than its beginning
  over : (k : ℕ) → k ≤ least s f → (is_first s x y ≡ true → k ≤ begin_in y) → k ≤ least s (f ++ (y ∷ []))
  over k l g = least_over_law s (f ++ (y ∷ [])) k (omega (arith, least_bound s f)) λ e z j m h.
      let w = first_is s z e h in
      in_cases e f y j
      (λ p. in_cases z f y m
      (λ q. omega (arith, least_pair s f e z p q h))
      (λ q. absurd (omega (arith, upto_begins s e y (by e p) (sym w.1 ∙ ap (name_in s) q), w.0, ap begin_in q))))
      (λ p. in_cases z f y m
      (λ q. omega (arith, second z q (ap (λ (a : ℕ). is_first s z a) (sym p) ∙ h), ap begin_in p))
      (λ q. absurd (omega (arith, w.0, ap begin_in q, ap begin_in p))))
    where
      second : (z : ℕ) → In z f → is_first s z y ≡ true → k ≤ begin_in y
      second z q h =
          let w = first_is s z y h in
          let n : name_in s x ≡ name_in s y = between s z x y (bx z q) (by x i) w.1 in
          go (ltb (begin_in x) (begin_in y)) refl n
        where
          go : (o : Bool) → ltb (begin_in x) (begin_in y) ≡ o → name_in s x ≡ name_in s y → k ≤ begin_in y
          go true c n = g (is_first_law s x y (ltb-true (begin_in x) (begin_in y) c) n)
          go false c n =
              let b : begin_in x ≡ begin_in y = omega (arith, upto_begins s x y (by x i) n, ltb-false (begin_in x) (begin_in y) c) in
              let r : x ≡ y = one_begin s x y n b in
              omega (arith, least_pair s f x z i q (ap (λ (a : ℕ). is_first s z a) r ∙ h), b)

  under : least s (f ++ (y ∷ [])) ≤ least s f
  under = least_more s f (f ++ (y ∷ [])) (λ e j. in_left f (y ∷ []) j)

  pub next_first : is_first s x y ≡ true → least s (f ++ (y ∷ [])) ≡ lesser (begin_in y) (least s f)
  next_first h =
      let a : lesser (begin_in y) (least s f) ≤ least s (f ++ (y ∷ [])) =
      over (lesser (begin_in y) (least s f)) (lesser_right (begin_in y) (least s f)) (λ _. lesser_left (begin_in y) (least s f)) in
      let b : least s (f ++ (y ∷ [])) ≤ lesser (begin_in y) (least s f) =
      lesser_both (least s (f ++ (y ∷ []))) (begin_in y) (least s f) (least_pair s (f ++ (y ∷ [])) y x (in_last f y) (in_left f (y ∷ []) i) h) under in
      omega arith

  pub next_not : is_first s x y ≡ false → least s (f ++ (y ∷ [])) ≡ least s f
  next_not h =
      let a : least s f ≤ least s (f ++ (y ∷ [])) = over (least s f) (omega arith) (λ k. clash (let z : true ≡ false = sym k ∙ h in cc)) in
      omega (arith, under)
