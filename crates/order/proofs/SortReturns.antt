-- A table is put in order by its halves.
use Prim.Native.Nat.{ℕ, ◌+◌, ◌-◌, ◌≤◌, ◌<◌}
use native.Mathlib.Omega.{arith}
use mathlib.Core.Path.{◌≡◌, refl, sym, ap, ◌∙◌}
use mathlib.Core.List.{List, [], ◌∷◌, ◌++◌, append_assoc, append-nil}
use lib.ListN.{length, take, drop, length-append, length-drop, take-append-drop, drop_of_length-le}
use lib.Seq.{take_all, take_at, drop_at, take-take, take-add, take-append-add, length-take-le}
use Rattle.order.specs.Arranged.{ordered}
use Rattle.order.specs.Sorted.{Sorted}
use Rattle.order.specs.Passes.{Holds, Joins, Sorts}
use Rattle.order.proofs.SortedLaws.{ordered_sorted, ordered_length, ordered_is, ordered_both}

-- ---- what is lent

pub holds_fewer : (t : List ℕ) (m n room : ℕ) → Holds t n room → m ≤ n → Holds t m room
holds_fewer t m n room h l = record { apart = omega (arith, h.apart); fits = omega (arith, h.fits) }

holds_kept : (t t' : List ℕ) (n room : ℕ) → Holds t n room → length t' ≡ length t → Holds t' n room
holds_kept t t' n room h e = record { apart = h.apart; fits = omega (arith, h.fits) }

rest_all : (m : ℕ) (t : List ℕ) → take (length t - m) (drop m t) ≡ drop m t
rest_all m t = take_all (length t - m) (drop m t) (omega (arith, length-drop m t))

less_both : (a b m k : ℕ) → m ≤ a → m ≤ b → a + b ≤ k → (b - m) + (a - m) ≤ k - m
less_both a b m k i j l = omega arith

holds_second : (t : List ℕ) (m n room : ℕ) → Holds t n room → m ≤ n → Holds (take (length t - m) (drop m t)) (n - m) (room - m)
holds_second t m n room h l = record {
  apart = omega (arith, h.apart);
  fits = rw (rest_all m t, length-drop m t) (less_both n room m (length t) l (omega (arith, h.apart)) (omega (arith, h.fits)));
}

pub second_lent : (s : List ℕ) (m n room : ℕ) (t t₁ : List ℕ) → Holds t n room → m ≤ n → Sorts s m room t t₁
    → Holds (take (length t₁ - m) (drop m t₁)) (n - m) (room - m)
second_lent s m n room t t₁ h l w = holds_second t₁ m n room (holds_kept t t₁ n room h w.length_kept) l

-- ---- fewer than two entries

pub sort_few : (s : List ℕ) (n room : ℕ) (t : List ℕ) → n < 2 → Sorts s n room t t
sort_few s n room t l = record { length_kept = refl; is = λ xs c e h. h ∙ ap (λ (u : List ℕ). u ++ c) (sym (ordered_is s xs (of xs (omega arith)))) }
  where
    of : (xs : List ℕ) → length xs < 2 → Sorted s xs
    of [] k = tt
    of (x ∷ []) k = (tt, tt)
    of (x ∷ y ∷ xs) k = absurd (omega arith)

-- ---- both halves

module _ (s : List ℕ) (m n room : ℕ) (t t₁ y t₂ : List ℕ) (h : Holds t n room) (l : m ≤ n) (w₁ : Sorts s m room t t₁)
    (w₂ : Sorts s (n - m) (room - m) (take (length t₁ - m) (drop m t₁)) y)
    (e₂ : t₂ ≡ take m t₁ ++ (y ++ drop (length t₁ - m) (drop m t₁))) where
  second_back : t₂ ≡ take m t₁ ++ y
  second_back =
      let z : drop (length t₁ - m) (drop m t₁) ≡ [] = drop_of_length-le (drop m t₁) {i = length t₁ - m} (omega (arith, length-drop m t₁)) in
      e₂ ∙ ap (λ (u : List ℕ). take m t₁ ++ u) (ap (λ (u : List ℕ). y ++ u) z ∙ append-nil y)

  first_length : length (take m t₁) ≡ m
  first_length = length-take-le m t₁ (omega (arith, w₁.length_kept, h.apart, h.fits))

  pub halves_kept : length t₂ ≡ length t
  halves_kept =
      ap length second_back ∙ (length-append (take m t₁) y
      ∙ (let z : length (take m t₁) + length y ≡ length t =
      omega (arith, first_length, w₂.length_kept ∙ (ap length (rest_all m t₁) ∙ length-drop m t₁), w₁.length_kept, h.apart, h.fits) in z))

  pub both_lent : Holds t₂ n room
  both_lent = holds_kept t t₂ n room h halves_kept

  -- entries xs and ys, and c behind them
  module _ (xs ys c : List ℕ) (a : length xs ≡ m) (b : length ys ≡ n - m) (e : take room t ≡ xs ++ (ys ++ c)) where
    first_sorted : take room t₁ ≡ ordered s xs ++ (ys ++ c)
    first_sorted = w₁.is xs (ys ++ c) a e

    sorted_length : length (ordered s xs) ≡ m
    sorted_length = ordered_length s xs ∙ a

    split : m + (room - m) ≡ room
    split = omega (arith, h.apart)

    second_before : take (room - m) (take (length t₁ - m) (drop m t₁)) ≡ ys ++ c
    second_before =
        ap (take (room - m)) (rest_all m t₁)
        ∙ (sym (drop_at (take m t₁) (take (room - m) (drop m t₁)) m first_length)
        ∙ (ap (drop m) (sym (take-add m (room - m) t₁) ∙ (ap (λ (k : ℕ). take k t₁) split ∙ first_sorted)) ∙ drop_at (ordered s xs) (ys ++ c) m sorted_length))

    front_is : take m t₁ ≡ ordered s xs
    front_is = sym (take-take m room t₁ (omega (arith, h.apart))) ∙ (ap (take m) first_sorted ∙ take_at (ordered s xs) (ys ++ c) m sorted_length)

    both_sorted : take room t₂ ≡ ordered s xs ++ (ordered s ys ++ c)
    both_sorted =
        ap (take room) (second_back ∙ ap (λ (u : List ℕ). u ++ y) front_is)
        ∙ (ap (λ (k : ℕ). take k (ordered s xs ++ y)) (sym (ap (λ (k : ℕ). k + (room - m)) sorted_length ∙ split))
        ∙ (take-append-add (ordered s xs) y (room - m) ∙ ap (λ (u : List ℕ). ordered s xs ++ u) (w₂.is ys c b second_before)))

  parts : {X : Type 0} (zs c : List ℕ) → length zs ≡ n → take room t ≡ zs ++ c
      → ((xs ys : List ℕ) → length xs ≡ m → length ys ≡ n - m → zs ≡ xs ++ ys → take room t ≡ xs ++ (ys ++ c) → X) → X
  parts zs c q e f =
      let z : take m zs ++ drop m zs ≡ zs = take-append-drop m zs in
      f (take m zs) (drop m zs) (length-take-le m zs (omega arith)) (length-drop m zs ∙ ap (λ (k : ℕ). k - m) q) (sym z)
      (e ∙ (ap (λ (u : List ℕ). u ++ c) (sym z) ∙ append_assoc (take m zs) (drop m zs) c))

  pub sort_joined : (t₃ : List ℕ) → Joins s m n room t₂ t₃ → Sorts s n room t t₃
  sort_joined t₃ w₃ = record {
    length_kept = w₃.length_kept ∙ halves_kept;
    is = λ zs c q e. parts zs c q e λ xs ys a b z i.
        w₃.is (ordered s xs) (ordered s ys) c (record {
          first = sorted_length xs ys c a b i;
          both = omega (arith, sorted_length xs ys c a b i, ordered_length s ys);
          first_sorted = ordered_sorted s xs;
          second_sorted = ordered_sorted s ys;
          is = both_sorted xs ys c a b i;
        }) ∙ ap (λ (u : List ℕ). u ++ c) (ordered_both s xs ys ∙ ap (ordered s) (sym z));
  }
