-- Two sorted runs become one.
use Prim.Native.Nat.{ℕ, zero, suc, ◌+◌, ◌≤◌, ◌<◌}
use native.Mathlib.Omega.{arith}
use native.Mathlib.Numerals.{add-one}
use mathlib.Core.Path.{◌≡◌, refl, sym, ap, ◌∙◌}
use mathlib.Core.Bool.{Bool, true, false, not}
use mathlib.Core.List.{List, [], ◌∷◌, ◌++◌, append_assoc}
use lib.ListN.{length, take, drop, get_or, set, length-drop, length-set, take-append-drop, drop_of_length-le}
use lib.Seq.{append_snoc, drop-cons, drop-drop, take-take, get_or-take, get_or-drop, take-suc-set, drop-set-lt, take-set-lt}
use Rattle.number.proofs.Clash.{clash}
use Rattle.compare.specs.Order.{upto}
use Rattle.order.specs.Arranged.{ordered}
use Rattle.order.specs.Sorted.{Below, Sorted}
use Rattle.order.specs.Passes.{Halves, Seconds, Runs, Merges}
use Rattle.compare.proofs.OrderLaws.{upto_not, is_upto_law}
use Rattle.order.proofs.SortedLaws.{below_trans, below_append, ordered_is, ordered_front, ordered_middle}

-- ---- whether the second run is next

pub second_none : (s t : List ℕ) (x at n : ℕ) → n ≤ at → Seconds s t x at n false
second_none s t x at n l = record { some = λ e. clash cc; after = λ e. clash cc; first = λ e k. absurd (omega arith) }

pub second_by : (s t : List ℕ) (x at n : ℕ) → at < n → (o : Bool) → o ≡ upto s x (get_or t at 0) → Seconds s t x at n (not o)
second_by s t x at n l true h = record { some = λ e. l; after = λ e. clash cc; first = λ e k. sym h }
second_by s t x at n l false h = record { some = λ e. l; after = λ e. sym h; first = λ e k. clash cc }

-- ---- two sorted lists, and the first of both

first_right : (s : List ℕ) (x y : ℕ) (p q : List ℕ) → Sorted s (x ∷ p) → Sorted s (y ∷ q) → upto s x y ≡ false
    → ordered s ((x ∷ p) ++ (y ∷ q)) ≡ y ∷ ordered s ((x ∷ p) ++ q)
first_right s x y p q v w h =
    let k : upto s y x ≡ true = is_upto_law s y x (upto_not s x y h) in
    ordered_middle s y (x ∷ p) q (k, below_append s y p q (below_trans s y x p k v.0) w.0)

first_left : (s : List ℕ) (x : ℕ) (p q : List ℕ) → Sorted s (x ∷ p) → Sorted s q → (0 < length q → upto s x (get_or q 0 0) ≡ true)
    → ordered s ((x ∷ p) ++ q) ≡ x ∷ ordered s (p ++ q)
first_left s x p q v w f = ordered_front s x (p ++ q) (below_append s x p q v.0 (of q w f))
  where
    of : (q : List ℕ) → Sorted s q → (0 < length q → upto s x (get_or q 0 0) ≡ true) → Below s x q
    of [] w f = tt
    of (y ∷ q) w f = let h : upto s x y ≡ true = f (omega arith) in (h, below_trans s x y q h w.0)

sorted_drop : (s t : List ℕ) (i : ℕ) → Sorted s t → Sorted s (drop i t)
sorted_drop s t zero w = w
sorted_drop s [] (suc i) w = tt
sorted_drop s (x ∷ t) (suc i) w = sorted_drop s t i w.1

-- ---- i of xs and j of ys are merged

pub record Merged (s : List ℕ) (m room : ℕ) (xs ys c t : List ℕ) (i j : ℕ) : Type 0 where
  pub in_room : take m (drop room t) ≡ xs
  pub behind : drop (m + j) (take room t) ≡ drop j ys ++ c
  pub is : take (i + j) t ++ ordered s (drop i xs ++ drop j ys) ≡ ordered s (xs ++ ys)

pub record Merging (s : List ℕ) (m n room : ℕ) (t₀ t : List ℕ) (i j : ℕ) : Type 0 where
  pub length_kept : length t ≡ length t₀
  pub left : i ≤ m
  pub right : m + j ≤ n
  pub is : (xs ys c : List ℕ) → Runs s m n room t₀ xs ys c → Merged s m room xs ys c t i j

plus_none : (a : ℕ) → a + 0 ≡ a
plus_none a = omega arith

pub merge_starts : (s : List ℕ) (m n room : ℕ) (t : List ℕ) → m ≤ n → Merging s m n room t t 0 0
merge_starts s m n room t l = record {
  length_kept = refl;
  left = omega arith;
  right = omega arith;
  is = λ xs ys c r. record { in_room = r.in_room; behind = rw (plus_none m) r.behind; is = refl };
}

module _ (s : List ℕ) (m n room : ℕ) (t₀ t : List ℕ) (i j : ℕ) (h : Halves t₀ m n room) (w : Merging s m n room t₀ t i j) (l : i < m) where
  module _ (xs ys c : List ℕ) (r : Runs s m n room t₀ xs ys c) where
    here : Merged s m room xs ys c t i j
    here = w.is xs ys c r

    -- the next of xs
    next_left : drop i xs ≡ get_or t (room + i) 0 ∷ drop (suc i) xs
    next_left =
        let e : get_or xs i 0 ≡ get_or t (room + i) 0 =
        ap (λ (u : List ℕ). get_or u i 0) (sym here.in_room) ∙ (get_or-take m (drop room t) i 0 l ∙ get_or-drop room t i 0) in
        drop-cons xs i 0 (omega (arith, r.first)) ∙ ap (λ (a : ℕ). a ∷ drop (suc i) xs) e

    -- the next of ys, if there is one
    next_right : m + j < n → drop j ys ≡ get_or t (m + j) 0 ∷ drop (suc j) ys
    next_right k =
        let d : drop j ys ≡ get_or ys j 0 ∷ drop (suc j) ys = drop-cons ys j 0 (omega (arith, r.first, r.both)) in
        let e : get_or ys j 0 ≡ get_or t (m + j) 0 =
        ap (λ (u : List ℕ). get_or (u ++ c) 0 0) (sym d) ∙ (ap (λ (u : List ℕ). get_or u 0 0) (sym here.behind)
        ∙ (get_or-drop (m + j) (take room t) 0 0 ∙ (ap (λ (a : ℕ). get_or (take room t) a 0) (plus_none (m + j))
        ∙ get_or-take room t (m + j) 0 (omega (arith, h.holds.apart))))) in
        d ∙ ap (λ (a : ℕ). a ∷ drop (suc j) ys) e

    -- one number more stands in front
    module _ (v : ℕ) where
      room_same : take m (drop room (set t (i + j) v)) ≡ xs
      room_same = ap (take m) (drop-set-lt room t (i + j) v (omega (arith, w.right, h.holds.apart))) ∙ here.in_room

      behind_same : (k : ℕ) → i + j < k → drop k (take room (set t (i + j) v)) ≡ drop k (take room t)
      behind_same k a = ap (drop k) (take-set-lt room t (i + j) v (omega (arith, w.right, h.holds.apart))) ∙ drop-set-lt k (take room t) (i + j) v a

      one_more_law : (zs : List ℕ) → ordered s (drop i xs ++ drop j ys) ≡ v ∷ zs → take (suc (i + j)) (set t (i + j) v) ++ zs ≡ ordered s (xs ++ ys)
      one_more_law zs e =
          ap (λ (u : List ℕ). u ++ zs) (take-suc-set t (i + j) v (omega (arith, w.right, w.length_kept, h.holds.apart, h.holds.fits)))
          ∙ (append_snoc (take (i + j) t) v zs ∙ (ap (λ (u : List ℕ). take (i + j) t ++ u) (sym e) ∙ here.is))

  module _ (o : Bool) (q : Seconds s t (get_or t (room + i) 0) (m + j) n o) where
    pub merge_right_in : o ≡ true → m + j < n
    merge_right_in e = q.some e

    pub merge_right : o ≡ true → Merging s m n room t₀ (set t (i + j) (get_or t (m + j) 0)) i (j + 1)
    merge_right e =
        let k : m + j < n = q.some e in
        let z : i + (j + 1) ≡ suc (i + j) = omega arith in
        let y : m + (j + 1) ≡ suc (m + j) = omega arith in
        record {
          length_kept = length-set t (i + j) (get_or t (m + j) 0) ∙ w.length_kept;
          left = w.left;
          right = omega arith;
          is = λ xs ys c r.
              let both : ordered s (drop i xs ++ drop j ys) ≡ get_or t (m + j) 0 ∷ ordered s (drop i xs ++ drop (suc j) ys) =
              rw (next_left xs ys c r, next_right xs ys c r k)
              (first_right s (get_or t (room + i) 0) (get_or t (m + j) 0) (drop (suc i) xs) (drop (suc j) ys)
              (rw (next_left xs ys c r) at (sorted_drop s xs i r.first_sorted))
              (rw (next_right xs ys c r k) at (sorted_drop s ys j r.second_sorted)) (q.after e)) in
              record {
                in_room = room_same xs ys c r (get_or t (m + j) 0);
                behind = rw (y, add-one j) (behind_same xs ys c r (get_or t (m + j) 0) (suc (m + j)) (omega arith) ∙ behind_next xs ys c r k);
                is = rw (z, add-one j) (one_more_law xs ys c r (get_or t (m + j) 0) (ordered s (drop i xs ++ drop (suc j) ys)) both);
              };
        }
      where
        behind_next : (xs ys c : List ℕ) (r : Runs s m n room t₀ xs ys c) → m + j < n → drop (suc (m + j)) (take room t) ≡ drop (suc j) ys ++ c
        behind_next xs ys c r k =
            ap (λ (a : ℕ). drop a (take room t)) (sym (add-one (m + j))) ∙ (sym (drop-drop 1 (m + j) (take room t))
            ∙ (ap (drop 1) (w.is xs ys c r).behind ∙ ap (λ (u : List ℕ). drop 1 (u ++ c)) (next_right xs ys c r k)))

    pub merge_left : o ≡ false → Merging s m n room t₀ (set t (i + j) (get_or t (room + i) 0)) (i + 1) j
    merge_left e =
        let z : i + 1 + j ≡ suc (i + j) = omega arith in
        record {
          length_kept = length-set t (i + j) (get_or t (room + i) 0) ∙ w.length_kept;
          left = omega arith;
          right = w.right;
          is = λ xs ys c r.
              let both : ordered s (drop i xs ++ drop j ys) ≡ get_or t (room + i) 0 ∷ ordered s (drop (suc i) xs ++ drop j ys) =
              rw (next_left xs ys c r)
              (first_left s (get_or t (room + i) 0) (drop (suc i) xs) (drop j ys)
              (rw (next_left xs ys c r) at (sorted_drop s xs i r.first_sorted)) (sorted_drop s ys j r.second_sorted) (head_above xs ys c r e)) in
              record {
                in_room = room_same xs ys c r (get_or t (room + i) 0);
                behind = behind_same xs ys c r (get_or t (room + i) 0) (m + j) (omega arith) ∙ (w.is xs ys c r).behind;
                is = rw (z, add-one i) (one_more_law xs ys c r (get_or t (room + i) 0) (ordered s (drop (suc i) xs ++ drop j ys)) both);
              };
        }
      where
        head_above : (xs ys c : List ℕ) (r : Runs s m n room t₀ xs ys c) → o ≡ false → 0 < length (drop j ys)
            → upto s (get_or t (room + i) 0) (get_or (drop j ys) 0 0) ≡ true
        head_above xs ys c r e k =
            let a : m + j < n = omega (arith, length-drop j ys, r.first, r.both) in
            rw (next_right xs ys c r a) (q.first e a)

module _ (s : List ℕ) (m n room : ℕ) (t₀ t : List ℕ) (i j : ℕ) (h : Halves t₀ m n room) (w : Merging s m n room t₀ t i j) where
  pub merge_ends : m ≤ i → Merges s m n room t₀ t
  merge_ends l = record {
    length_kept = w.length_kept;
    is = λ xs ys c r.
        let e : i ≡ m = omega (arith, w.left) in
        let a : drop i xs ≡ [] = drop_of_length-le xs {i = i} (omega (arith, r.first)) in
        let b : ordered s (drop i xs ++ drop j ys) ≡ drop j ys = rw a (ordered_is s (drop j ys) (sorted_drop s ys j r.second_sorted)) in
        let d : take (m + j) t ++ drop j ys ≡ ordered s (xs ++ ys) = rw e at (ap (λ (u : List ℕ). take (i + j) t ++ u) (sym b) ∙ (w.is xs ys c r).is) in
        sym (take-append-drop (m + j) (take room t))
        ∙ (ap (λ (u : List ℕ). u ++ drop (m + j) (take room t)) (take-take (m + j) room t (omega (arith, w.right, h.holds.apart)))
        ∙ (ap (λ (u : List ℕ). take (m + j) t ++ u) (w.is xs ys c r).behind
        ∙ (sym (append_assoc (take (m + j) t) (drop j ys) c) ∙ ap (λ (u : List ℕ). u ++ c) d)));
  }
