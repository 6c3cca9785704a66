-- Two sorted runs that stand one behind the other are put in order.
use Prim.Native.Nat.{ℕ, suc, ◌+◌, ◌<◌}
use native.Mathlib.Omega.{arith}
use mathlib.Core.Path.{◌≡◌, refl, sym, ap, ◌∙◌}
use mathlib.Core.Bool.{Bool, true}
use mathlib.Core.List.{List, [], ◌∷◌, ◌++◌, append_assoc}
use lib.ListN.{length, take, drop, get_or, get_or-append}
use lib.Seq.{paste, length-take-le, take_all, take-suc, take_at, drop_at, take-take, get_or-take, get_or_at}
use Rattle.std.proofs.lemmas.List.{drop-take}
use Rattle.std.proofs.lemmas.List.Edits.{take-paste}
use Rattle.compare.specs.Order.{upto}
use Rattle.order.specs.Arranged.{ordered}
use Rattle.order.specs.Sorted.{Below, Sorted}
use Rattle.order.specs.Passes.{Holds, Halves, Copies, Merges, Joins}
use Rattle.order.proofs.SortedLaws.{below_trans, below_append, ordered_is}

-- the last of xs is up to the first of ys
joined : (s xs : List ℕ) (x : ℕ) (ys : List ℕ) → Sorted s (xs ++ (x ∷ [])) → Sorted s (x ∷ ys) → Sorted s ((xs ++ (x ∷ [])) ++ ys)
joined s [] x ys v w = w
joined s (z ∷ xs) x ys v w =
    (below_append s z (xs ++ (x ∷ [])) ys v.0 (below_trans s z x ys (last_below z xs v.0) w.0), joined s xs x ys v.1 w)
  where
    last_below : (z : ℕ) (xs : List ℕ) → Below s z (xs ++ (x ∷ [])) → upto s z x ≡ true
    last_below z [] b = b.0
    last_below z (u ∷ xs) b = last_below z xs b.1

-- the first m numbers are copied to the room
pub copied : (t t' : List ℕ) (m n k room : ℕ) → Holds t n room → m < n → k ≡ m → length t' ≡ length t → t' ≡ paste t room t k → Copies m room t t'
copied t t' m n k room h l q e f =
    let a : length (take room t) ≡ room = length-take-le room t (omega (arith, h.fits)) in
    let b : take (room + m) t' ≡ take room t ++ take m t =
    ap (take (room + m)) (f ∙ ap (paste t room t) q) ∙ take-paste t room t m (omega (arith, h.fits)) (omega (arith, h.fits, h.apart)) in
    record {
      length_kept = e;
      front = sym (take-take room (room + m) t' (omega arith)) ∙ (ap (take room) b ∙ take_at (take room t) (take m t) room a);
      copied = sym (drop-take room m t') ∙ (ap (drop room) b ∙ drop_at (take room t) (take m t) room a);
    }

module _ (s : List ℕ) (m n room : ℕ) (t : List ℕ) (h : Holds t n room) where
  pub join_early : (o : Bool) (p : ℕ) → o ≡ upto s (get_or t p 0) (get_or t m 0) → o ≡ true → suc p ≡ m → m < n → Joins s m n room t t
  join_early o p g q i j = record {
    length_kept = refl;
    is = λ xs ys c r.
        let e : ordered s (xs ++ ys) ≡ xs ++ ys =
        ordered_is s (xs ++ ys) (meet xs ys c r.first (omega (arith, r.first, r.both)) r.is r.first_sorted r.second_sorted) in
        r.is ∙ (sym (append_assoc xs ys c) ∙ ap (λ (u : List ℕ). u ++ c) (sym e));
  }
    where
      meet : (xs ys c : List ℕ) → length xs ≡ m → 0 < length ys → take room t ≡ xs ++ (ys ++ c) → Sorted s xs → Sorted s ys → Sorted s (xs ++ ys)
      meet xs [] c a b v f f' = absurd (omega arith)
      meet xs (y ∷ ys) c a b v f f' =
          let k : xs ≡ take p xs ++ (get_or xs p 0 ∷ []) = sym (take_all (suc p) xs (omega arith)) ∙ take-suc xs p 0 (omega arith) in
          let x : get_or t p 0 ≡ get_or xs p 0 =
          sym (get_or-take room t p 0 (omega (arith, h.apart))) ∙ (ap (λ (u : List ℕ). get_or u p 0) v ∙ get_or-append xs ((y ∷ ys) ++ c) 0 p (omega arith)) in
          let z : get_or t m 0 ≡ y = sym (get_or-take room t m 0 (omega (arith, h.apart))) ∙ (ap (λ (u : List ℕ). get_or u m 0) v ∙ get_or_at xs y (ys ++ c) 0 m a) in
          let o : upto s (get_or xs p 0) y ≡ true = rw (x, z) at (sym g ∙ q) in
          rw k (joined s (take p xs) (get_or xs p 0) (y ∷ ys) (rw k at f) ((o, below_trans s (get_or xs p 0) y ys o f'.0), f'))

  pub join_halves : m < n → (t' : List ℕ) → Copies m room t t' → Halves t' m n room
  join_halves l t' w = record { part = omega arith; holds = record { apart = h.apart; fits = omega (arith, h.fits, w.length_kept) } }

  pub join_merged : m < n → (t' t'' : List ℕ) → Copies m room t t' → Merges s m n room t' t'' → Joins s m n room t t''
  join_merged l t' t'' w v = record {
    length_kept = v.length_kept ∙ w.length_kept;
    is = λ xs ys c r. v.is xs ys c (record {
      first = r.first;
      both = r.both;
      first_sorted = r.first_sorted;
      second_sorted = r.second_sorted;
      in_room = w.copied ∙ (sym (take-take m room t (omega (arith, h.apart))) ∙ (ap (take m) r.is ∙ take_at xs (ys ++ c) m r.first));
      behind = ap (drop m) (w.front ∙ r.is) ∙ drop_at xs (ys ++ c) m r.first;
    });
  }
