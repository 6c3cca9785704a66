-- Entries compared in pairs: one more entry with all before it, and so all of them.
use Prim.Native.Nat.{ℕ, min, ◌+◌, ◌/◌, ◌%◌, ◌≤◌, ◌<◌}
use native.Mathlib.Omega.{arith}
use native.Mathlib.Numerals.{add-one}
use mathlib.Core.Path.{◌≡◌, refl, sym, ap, ◌∙◌}
use mathlib.Core.Bool.{Bool, true, false, cond}
use mathlib.Core.List.{List, [], ◌∷◌, ◌++◌}
use lib.ListN.{length, take, get_or}
use lib.Seq.{take-suc, take_all}
use lib.Dec.{ltb}
use borrow.Author.Tests.{ltb-true, ltb-false, le-ltb}
use Rattle.std.specs.declared.cmp.Ordering.{Ordering}
use Rattle.std.specs.declared.cmp.Ordering.TheVariants.{Less, Equal, Greater}
use Rattle.std.specs.Ordering.{is_eq}
use Rattle.compare.specs.Order.{order}
use Rattle.compare.proofs.OrderLaws.{order_refl, order_same}
use Rattle.entries.specs.Entry.{begin_in, name_in}
use Rattle.entries.specs.Least.{is_first, lesser, least_of, least}
use Rattle.entries.specs.Among.{In, here, there}
use Rattle.pairs.specs.Code.{least_with, least_past}
use Rattle.entries.proofs.Perms.{in_left, in_last, in_cases}
use Rattle.entries.proofs.LeastLaws.{first_is, is_first_law, lesser_left, lesser_right, lesser_both, least_bound, least_over_law, least_pair, least_more}

-- ---- two entries

module _ (s : List ℕ) (x y : ℕ) where
  pub first_by : x % 16777216 < y % 16777216 → is_eq (order (name_in s x) (name_in s y)) ≡ is_first s x y
  first_by l = go (is_first s x y) (order (name_in s x) (name_in s y)) refl refl
    where
      go : (q : Bool) (o : Ordering) → is_first s x y ≡ q → order (name_in s x) (name_in s y) ≡ o → is_eq o ≡ q
      go true o h k = ap is_eq (sym k ∙ (ap (λ (n : List ℕ). order n (name_in s y)) (first_is s x y h).1 ∙ order_refl (name_in s y)))
      go false Less h k = refl
      go false Equal h k = sym (is_first_law s x y l (order_same (name_in s x) (name_in s y) k)) ∙ h
      go false Greater h k = refl

  pub first_later : y % 16777216 ≤ x % 16777216 → ltb (x % 16777216) (y % 16777216) ≡ is_first s x y
  unfolding is_first
  first_later l = rw (le-ltb (begin_in x) (begin_in y) l)

other_key : (s : List ℕ) (x y : ℕ) → (x / 16777216 ≡ y / 16777216 → ⊥) → is_first s x y ≡ false
other_key s x y f = go (is_first s x y) refl
  where
    go : (o : Bool) → is_first s x y ≡ o → o ≡ false
    go true h = absurd (f (let z : name_in s x ≡ name_in s y = (first_is s x y h).1 in cc))
    go false h = refl

module _ (s : List ℕ) (x y l : ℕ) where
  pub with_apart : (x / 16777216 ≡ y / 16777216 → ⊥) → l ≡ least_with s x y l
  unfolding least_with
  with_apart f = rw (other_key s x y f, other_key s y x (λ e. f (sym e)))

  pub with_first : (o : Bool) → o ≡ is_first s x y → o ≡ true → (b r : ℕ) → b ≡ begin_in y → r ≡ lesser b l → r ≡ least_with s x y l
  unfolding least_with
  with_first o h e b r i j = rw (← h, e, ← i) j

  pub with_second : (o p : Bool) → o ≡ is_first s x y → o ≡ false → p ≡ is_first s y x → p ≡ true → (b r : ℕ) → b ≡ begin_in x → r ≡ lesser b l
      → r ≡ least_with s x y l
  unfolding least_with
  with_second o p h e i f b r j k = rw (← h, e, ← i, f, ← j) k

  pub with_none : (o p : Bool) → o ≡ is_first s x y → o ≡ false → p ≡ is_first s y x → p ≡ false → l ≡ least_with s x y l
  unfolding least_with
  with_none o p h e i f = rw (← h, e, ← i, f)

  -- it is no more than before, and no more than where a twin begins
  with_less : least_with s x y l ≤ l
  unfolding least_with
  with_less = go (is_first s x y) (is_first s y x)
    where
      go : (o p : Bool) → cond o (lesser (begin_in y) l) (cond p (lesser (begin_in x) l) l) ≤ l
      go true p = lesser_right (begin_in y) l
      go false true = lesser_right (begin_in x) l
      go false false = omega arith

  with_later : is_first s x y ≡ true → least_with s x y l ≤ begin_in y
  unfolding least_with
  with_later h = rw h (lesser_left (begin_in y) l)

  with_earlier : is_first s y x ≡ true → least_with s x y l ≤ begin_in x
  unfolding least_with
  with_earlier h = go (is_first s x y) refl
    where
      go : (o : Bool) → is_first s x y ≡ o → cond o (lesser (begin_in y) l) (cond (is_first s y x) (lesser (begin_in x) l) l) ≤ begin_in x
      go true e = absurd (omega (arith, (first_is s x y e).0, (first_is s y x h).0))
      go false e = rw h (lesser_left (begin_in x) l)

  with_over : (k : ℕ) → k ≤ l → (is_first s x y ≡ true → k ≤ begin_in y) → (is_first s y x ≡ true → k ≤ begin_in x) → k ≤ least_with s x y l
  unfolding least_with
  with_over k m f g = go (is_first s x y) (is_first s y x) refl refl
    where
      go : (o p : Bool) → is_first s x y ≡ o → is_first s y x ≡ p → k ≤ cond o (lesser (begin_in y) l) (cond p (lesser (begin_in x) l) l)
      go true p e i = lesser_both k (begin_in y) l (f e) m
      go false true e i = lesser_both k (begin_in x) l (g i) m
      go false false e i = m

-- ---- y and some entries

past_less : (s t : List ℕ) (y l : ℕ) → least_past s t y l ≤ l
unfolding least_past
past_less s [] y l = omega arith
past_less s (x ∷ t) y l = omega (arith, past_less s t y (least_with s x y l), with_less s x y l)

past_later : (s t : List ℕ) (x y l : ℕ) → In x t → is_first s x y ≡ true → least_past s t y l ≤ begin_in y
unfolding least_past
past_later s [] x y l x4 h = elim x4 [ ]
past_later s (z ∷ t) x y l here h = omega (arith, past_less s t y (least_with s x y l), with_later s x y l h)
past_later s (z ∷ t) x y l (there i) h = past_later s t x y (least_with s z y l) i h

past_earlier : (s t : List ℕ) (x y l : ℕ) → In x t → is_first s y x ≡ true → least_past s t y l ≤ begin_in x
unfolding least_past
past_earlier s [] x y l x4 h = elim x4 [ ]
past_earlier s (z ∷ t) x y l here h = omega (arith, past_less s t y (least_with s x y l), with_earlier s x y l h)
past_earlier s (z ∷ t) x y l (there i) h = past_earlier s t x y (least_with s z y l) i h

past_over : (s t : List ℕ) (y l k : ℕ) → k ≤ l → ((x : ℕ) → In x t → is_first s x y ≡ true → k ≤ begin_in y)
    → ((x : ℕ) → In x t → is_first s y x ≡ true → k ≤ begin_in x) → k ≤ least_past s t y l
unfolding least_past
past_over s [] y l k m f g = m
past_over s (x ∷ t) y l k m f g =
    past_over s t y (least_with s x y l) k (with_over s x y l k m (f x here) (g x here)) (λ z i. f z (there i)) (λ z i. g z (there i))

past_append : (s t : List ℕ) (x y l : ℕ) → least_past s (t ++ (x ∷ [])) y l ≡ least_with s x y (least_past s t y l)
unfolding least_past
past_append s [] x y l = refl
past_append s (z ∷ t) x y l = past_append s t x y (least_with s z y l)

-- with all of them, if it was the least of these
past_least : (s t : List ℕ) (y : ℕ) → least_past s t y (least s t) ≡ least s (t ++ (y ∷ []))
past_least s t y = omega (arith, over, under)
  where
    under : least s (t ++ (y ∷ [])) ≤ least_past s t y (least s t)
    under = past_over s t y (least s t) (least s (t ++ (y ∷ []))) (least_more s t (t ++ (y ∷ [])) (λ e i. in_left t (y ∷ []) i))
        (λ x i h. least_pair s (t ++ (y ∷ [])) y x (in_last t y) (in_left t (y ∷ []) i) h)
        (λ x i h. least_pair s (t ++ (y ∷ [])) x y (in_left t (y ∷ []) i) (in_last t y) h)

    over : least_past s t y (least s t) ≤ least s (t ++ (y ∷ []))
    over = least_over_law s (t ++ (y ∷ [])) (least_past s t y (least s t)) (omega (arith, past_less s t y (least s t), least_bound s t)) λ e x i j h.
        in_cases e t y i
        (λ p. in_cases x t y j
        (λ q. omega (arith, past_less s t y (least s t), least_pair s t e x p q h))
        (λ q. past_earlier s t e y (least s t) p (ap (λ (z : ℕ). is_first s z e) (sym q) ∙ h)))
        (λ p. in_cases x t y j
        (λ q. omega (arith, past_later s t x y (least s t) q (ap (λ (z : ℕ). is_first s x z) (sym p) ∙ h), ap begin_in p))
        (λ q. absurd (omega (arith, (first_is s x e h).0, ap begin_in q, ap begin_in p))))

-- ---- the loops

-- y and the first k of some entries
pub past_starts : (s t : List ℕ) (y l : ℕ) → l ≡ least_past s (take 0 t) y l
unfolding least_past
past_starts s [] y l = refl
past_starts s (x ∷ t) y l = refl

pub past_on : (s t : List ℕ) (y l k l' : ℕ) → k < length t → l' ≡ least_past s (take k t) y l
    → least_with s (get_or t k 0) y l' ≡ least_past s (take (k + 1) t) y l
past_on s t y l k l' h e = rw (add-one k, take-suc t k 0 h, past_append s (take k t) (get_or t k 0) y l, ← e)

pub past_ends : (s t : List ℕ) (y l k l' : ℕ) → l' ≡ least_past s (take k t) y l → length t ≤ k → l' ≡ least_past s t y l
past_ends s t y l k l' e h = e ∙ ap (λ (m : List ℕ). least_past s m y l) (take_all k t h)

-- the first k entries
pub pair_starts : (s t : List ℕ) → 16777216 ≡ least s (take 0 t)
unfolding least_of
pair_starts s [] = refl
pair_starts s (x ∷ t) = refl

pub pair_on : (s t : List ℕ) (k l : ℕ) → k < length t → l ≡ least s (take k t) → least_past s (take k t) (get_or t k 0) l ≡ least s (take (k + 1) t)
pair_on s t k l h e = rw (add-one k, take-suc t k 0 h, ← past_least s (take k t) (get_or t k 0), ← e)

pub pair_ends : (s t : List ℕ) (n m k l : ℕ) → m ≡ min n (length t) → l ≡ least s (take k (take m t)) → length (take m t) ≤ k → l ≡ least s (take n t)
pair_ends s t n m k l e q h = q ∙ ap (least s) (take_all k (take m t) h ∙ go (ltb n (length t)) refl)
  where
    go : (o : Bool) → ltb n (length t) ≡ o → take m t ≡ take n t
    go true p = let z : m ≡ n = omega (arith, e, ltb-true n (length t) p) in ap (λ (i : ℕ). take i t) z
    go false p = take_all m t (omega (arith, e, ltb-false n (length t) p)) ∙ sym (take_all n t (ltb-false n (length t) p))
