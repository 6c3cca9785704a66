-- Where the first twin of sorted entries begins, neighbour by neighbour.
use Prim.Native.Nat.{ℕ, zero, suc, ◌+◌, ◌-◌, ◌≤◌, ◌<◌}
use native.Mathlib.Omega.{arith}
use native.Mathlib.Numerals.{add-one}
use mathlib.Core.Path.{◌≡◌, refl, sym, ap, ◌∙◌}
use mathlib.Core.Bool.{Bool, true, false, cond}
use mathlib.Core.List.{List, [], ◌∷◌, ◌++◌}
use lib.ListN.{length, take, drop, get_or, length-drop, take-append-drop}
use lib.Seq.{take-suc, take-take, drop-drop, get_or-take, get_or-drop, length-take-le}
use borrow.Author.Tests.{le-ltb}
use Rattle.entries.specs.Entry.{begin_in}
use Rattle.entries.specs.Least.{is_first, is_twin, lesser, least_of, least}
use Rattle.entries.specs.Among.{In}
use Rattle.order.specs.Sorted.{Sorted}
use Rattle.order.specs.Passes.{least_next, Tells}
use Rattle.compare.proofs.OrderLaws.{Upto, upto_refl}
use Rattle.entries.proofs.Perms.{in_last, in_cases}
use Rattle.order.proofs.NeighbourLaws.{sorted_last, sorted_left, next_first, next_not}

-- ---- the loop

pub record Finding (s t : List ℕ) (n l i : ℕ) : Type 0 where
  pub some : 1 ≤ i
  pub within : i ≤ 1 + (n - 1)
  pub is : Sorted s (take n t) → l ≡ least s (take i t)

sorted_take : (s t : List ℕ) (m : ℕ) → Sorted s t → Sorted s (take m t)
sorted_take s t m w = sorted_left s (take m t) (drop m t) (rw (take-append-drop m t) w)

least_one : (s : List ℕ) (x : ℕ) → least s (x ∷ []) ≡ 16777216
unfolding least_of is_twin is_first
least_one s x = rw (le-ltb (begin_in x) (begin_in x) (omega arith))

least_few : (s t : List ℕ) → 16777216 ≡ least s (take 1 t)
unfolding least_of
least_few s [] = refl
least_few s (x ∷ t) = sym (least_one s x)

pub find_starts : (s t : List ℕ) (n : ℕ) → Finding s t n 16777216 1
find_starts s t n = record { some = omega arith; within = omega arith; is = λ w. least_few s t }

-- one more entry y behind those up to x
next_least : (s u : List ℕ) (x y : ℕ) → Sorted s ((u ++ (x ∷ [])) ++ (y ∷ []))
    → least_next s x y (least s (u ++ (x ∷ []))) ≡ least s ((u ++ (x ∷ [])) ++ (y ∷ []))
next_least s u x y w = go (is_first s x y) refl
  where
    up_to_last : (z : ℕ) → In z (u ++ (x ∷ [])) → Upto s z x
    up_to_last z i =
        in_cases z u x i (λ j. sorted_last s u x (sorted_left s (u ++ (x ∷ [])) (y ∷ []) w) z j) (λ e. rw e (upto_refl s x))

    go : (o : Bool) → is_first s x y ≡ o
        → cond o (lesser (begin_in y) (least s (u ++ (x ∷ [])))) (least s (u ++ (x ∷ []))) ≡ least s ((u ++ (x ∷ [])) ++ (y ∷ []))
    go true e = sym (next_first s (u ++ (x ∷ [])) x y (in_last u x) up_to_last (sorted_last s (u ++ (x ∷ [])) y w) e)
    go false e = sym (next_not s (u ++ (x ∷ [])) x y (in_last u x) up_to_last (sorted_last s (u ++ (x ∷ [])) y w) e)

module _ (s t : List ℕ) (n l i : ℕ) (w : Finding s t n l i) where
  pub find_on : n ≤ length t → i < n → (p r : ℕ) → suc p ≡ i → r ≡ least_next s (get_or t p 0) (get_or t i 0) l → Finding s t n r (i + 1)
  find_on m h p r q e = record {
    some = omega arith;
    within = omega arith;
    is = λ v.
        let front : take i t ≡ take p t ++ (get_or t p 0 ∷ []) = ap (λ (a : ℕ). take a t) (sym q) ∙ take-suc t p 0 (omega arith) in
        let all : take (suc i) t ≡ (take p t ++ (get_or t p 0 ∷ [])) ++ (get_or t i 0 ∷ []) =
        take-suc t i 0 (omega arith) ∙ ap (λ (u : List ℕ). u ++ (get_or t i 0 ∷ [])) front in
        let sorted : Sorted s ((take p t ++ (get_or t p 0 ∷ [])) ++ (get_or t i 0 ∷ [])) =
        rw (take-take (suc i) n t (omega arith), all) at (sorted_take s (take n t) (suc i) v) in
        e ∙ (ap (least_next s (get_or t p 0) (get_or t i 0)) (w.is v ∙ ap (least s) front)
        ∙ (next_least s (take p t) (get_or t p 0) (get_or t i 0) sorted ∙ (ap (least s) (sym all) ∙ ap (λ (a : ℕ). least s (take a t)) (sym (add-one i)))));
  }

  pub find_ends : n ≤ i → Tells s t n l
  find_ends h = record { is = λ v. w.is v ∙ go n refl }
    where
      go : (k : ℕ) → n ≡ k → least s (take i t) ≡ least s (take n t)
      go zero e =
          let a : i ≡ 1 = omega (arith, w.some, w.within) in
          ap (λ (b : ℕ). least s (take b t)) a ∙ (sym (least_few s t) ∙ (least_few s [] ∙ ap (λ (b : ℕ). least s (take b t)) (sym e)))
      go (suc k) e = let a : i ≡ n = omega (arith, w.within) in ap (λ (b : ℕ). least s (take b t)) a

-- ---- what is left of the first n

pub record Walking (s t : List ℕ) (n l : ℕ) (rest : List ℕ) : Type 0 where
  pub few : length rest ≤ n
  pub is : rest ≡ drop (n - length rest) (take n t)
  pub finding : Finding s t n l (1 + (n - length rest))

pub walk_starts : (s t : List ℕ) (n : ℕ) → n ≤ length t → Walking s t n 16777216 (take n t)
walk_starts s t n m =
    let e : length (take n t) ≡ n = length-take-le n t m in
    let z : n - length (take n t) ≡ 0 = omega (arith, e) in
    record { few = omega (arith, e); is = rw z; finding = rw z (find_starts s t n) }

module _ (s t : List ℕ) (n l : ℕ) (rest : List ℕ) (w : Walking s t n l rest) (m : n ≤ length t) where
  walk_value : (k : ℕ) → k < 2 → 2 ≤ length rest → get_or (take 2 rest) k 0 ≡ get_or t (n - length rest + k) 0
  walk_value k a h =
      get_or-take 2 rest k 0 a ∙ (ap (λ (u : List ℕ). get_or u k 0) w.is ∙ (get_or-drop (n - length rest) (take n t) k 0
      ∙ get_or-take n t (n - length rest + k) 0 (omega (arith, w.few))))

  pub walk_on : (pair rest' : List ℕ) (r : ℕ) → 2 ≤ length rest → pair ≡ take 2 rest → rest' ≡ drop 1 rest
      → r ≡ least_next s (get_or pair 0 0) (get_or pair 1 0) l → Walking s t n r rest'
  walk_on pair rest' r h e f g =
      let a : length rest' ≡ length rest - 1 = ap length f ∙ length-drop 1 rest in
      let b : n - length rest' ≡ 1 + (n - length rest) = omega (arith, a, w.few) in
      let x : get_or pair 0 0 ≡ get_or t (n - length rest) 0 =
      ap (λ (u : List ℕ). get_or u 0 0) e ∙ (walk_value 0 (omega arith) h ∙ ap (λ (i : ℕ). get_or t i 0) (omega arith)) in
      let y : get_or pair 1 0 ≡ get_or t (1 + (n - length rest)) 0 =
      ap (λ (u : List ℕ). get_or u 1 0) e ∙ (walk_value 1 (omega arith) h ∙ ap (λ (i : ℕ). get_or t i 0) (omega arith)) in
      let z : r ≡ least_next s (get_or t (n - length rest) 0) (get_or t (1 + (n - length rest)) 0) l =
      g ∙ (ap (λ (i : ℕ). least_next s i (get_or pair 1 0) l) x ∙ ap (λ (i : ℕ). least_next s (get_or t (n - length rest) 0) i l) y) in
      let v : Finding s t n r (1 + (n - length rest) + 1) =
      find_on s t n l (1 + (n - length rest)) w.finding m (omega (arith, w.few)) (n - length rest) r (omega arith) z in
      record {
        few = omega (arith, a, w.few);
        is = f ∙ (ap (drop 1) w.is ∙ (drop-drop 1 (n - length rest) (take n t) ∙ ap (λ (i : ℕ). drop i (take n t)) (omega (arith, b))));
        finding = rw b (ap_finding (1 + (n - length rest) + 1) (1 + (1 + (n - length rest))) (omega arith) v);
      }
    where
      ap_finding : (i j : ℕ) → i ≡ j → Finding s t n r i → Finding s t n r j
      ap_finding i j q v = rw q at v

  pub walk_ends : length rest < 2 → Tells s t n l
  walk_ends h = find_ends s t n l (1 + (n - length rest)) w.finding (omega (arith, w.few))
