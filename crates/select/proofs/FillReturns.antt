-- A table that is filled with all names, and what comes of it.
use Rattle.std.specs.Prelude.{Some, Option, None}
use Prim.Native.Nat.{ℕ, zero, suc, ◌+◌, ◌-◌, ◌≤◌, ◌<◌}
use native.Mathlib.Omega.{arith}
use native.Mathlib.Numerals.{add-one}
use mathlib.Core.Path.{◌≡◌, refl, sym, ap, ◌∙◌}
use mathlib.Core.Bool.{Bool, true, false}
use mathlib.Core.List.{List, [], ◌∷◌, ◌++◌, append-nil}
use lib.ListN.{length, take, drop, set, replicate, length-append, length-set, drop_of_length-le}
use lib.Seq.{take-suc-set, take_all, take_at, drop-set-lt, drop-drop}
use lib.Dec.{ltb, leb}
use borrow.Author.Tests.{le-leb, lt-leb, le-ltb, ltb-true, ltb-false, leb-true, leb-false}
use Rattle.std.proofs.Common.{Option, None, Some}
use Rattle.std.specs.Option.{unwrap_or}
use Rattle.entries.specs.Entry.{entry_of}
use Rattle.entries.proofs.EntryLaws.{entry_begins, entry_length, entry_crossed, entry_outside, entry_long}
use Rattle.tables.specs.Fit.{fits, all_fit}
use Rattle.divide.specs.Divided.{Afterwards, afterwards, divided}
use Rattle.select.specs.declared.Source.{Source}
use Rattle.select.specs.Source.{named_at, entries_after, entries_from, entries_of, first_twin, zeroed, Searched, searched}
use Rattle.select.specs.Passes.{Fills}
use Rattle.select.proofs.WalkLaws.{Walked, walk_starts, walk_ends, walk_stops, walk_on, walk_less}
use Rattle.names.specs.declared.Name.{Name}

-- ---- every entry of a source fits

entry_fits : (s : List ℕ) (b e : ℕ) → fits s (entry_of s b e) ≡ true
entry_fits s b e = go (ltb e b) (ltb (length s) e) (leb 16777216 (length s)) refl refl refl
  where
    none : 0 ≡ entry_of s b e → fits s (entry_of s b e) ≡ true
    none i = rw (← i) (le-leb 0 (length s) (omega arith))

    go : (o p q : Bool) → ltb e b ≡ o → ltb (length s) e ≡ p → leb 16777216 (length s) ≡ q → fits s (entry_of s b e) ≡ true
    go true p q i j k = none (entry_crossed s b e (ltb-true e b i))
    go false true q i j k = none (entry_outside s b e (ltb-false e b i) (ltb-true (length s) e j))
    go false false true i j k = none (entry_long s b e (ltb-false e b i) (ltb-false (length s) e j) (leb-true 16777216 (length s) k))
    go false false false i j k =
        let l = ltb-false e b i in
        let m = ltb-false (length s) e j in
        let n = leb-false 16777216 (length s) k in
        rw (entry_begins s b e l m n, entry_length s b e l m n) (le-leb (b + (e - b)) (length s) (omega arith))

pub entries_fit : (o : Source) (s : List ℕ) (k a : ℕ) → all_fit s (entries_from o s k a) ≡ true
unfolding entries_from all_fit
entries_fit o s zero a = refl
entries_fit o s (suc k) a = go (named_at o a s) (λ n. entries_fit o s k n)
  where
    go : (y : Option Name) → ((n : ℕ) → all_fit s (entries_from o s k n) ≡ true) → all_fit s (entries_after s y (λ n. entries_from o s k n)) ≡ true
    go None f = refl
    go (Some p) f = rw (entry_fits s p.begin p.end) (f p.next)

-- ---- the loop

pub record Filling (o : Source) (s t₀ t : List ℕ) (at n : ℕ) : Type 0 where
  pub met : List ℕ
  pub walked : Walked o s met at
  pub number : n ≡ length met
  pub room : n ≤ length t₀
  pub kept : length t ≡ length t₀
  pub front : take n t ≡ met
  pub rest : drop n t ≡ drop n t₀

pub fill_starts : (o : Source) (s t : List ℕ) → Filling o s t t 0 0
fill_starts o s t = record { met = []; walked = walk_starts o s; number = refl; room = omega arith; kept = refl; front = refl; rest = refl }

module _ (o : Source) (s t₀ t : List ℕ) (at n : ℕ) (w : Filling o s t₀ t at n) where
  pub fill_kept : length t ≡ length t₀
  fill_kept = w.kept

  filled : entries_of o s ≡ w.met → Fills (entries_of o s) t₀ t (Some n)
  filled e = (w.number ∙ ap length (sym e), w.kept, w.room, w.front ∙ sym e, w.rest)

  pub fill_ends : length s ≤ at → Fills (entries_of o s) t₀ t (Some n)
  fill_ends l = filled (walk_ends o s w.met at w.walked l)

  module _ (x : Option Name) (e : x ≡ named_at o at s) where
    pub fill_stops : x ≡ None → Fills (entries_of o s) t₀ t (Some n)
    fill_stops h = filled (walk_stops o s w.met at w.walked x e h)

    module _ (l : at < length s) (p : Name) (h : x ≡ Some p) where
      on : Walked o s (w.met ++ (entry_of s p.begin p.end ∷ [])) p.next
      on = walk_on o s w.met at w.walked x e l p h

      pub fill_less : length s - p.next < length s - at
      fill_less = walk_less o s w.met at w.walked x e l p h

      pub fill_more : length t ≤ n → Fills (entries_of o s) t₀ t None
      fill_more k =
          let z : length (entries_of o s) ≡ length w.met + 1 + length (entries_from o s on.fuel p.next) =
          ap length on.whole ∙ length-append (w.met ++ (entry_of s p.begin p.end ∷ [])) (entries_from o s on.fuel p.next)
          ∙ ap (λ (y : ℕ). y + length (entries_from o s on.fuel p.next)) (length-append w.met (entry_of s p.begin p.end ∷ [])) in
          let q : n ≡ length t₀ = omega (arith, w.kept, w.room) in
          (omega (arith, z, w.number, w.kept), w.kept, sym (take_all n t k) ∙ w.front ∙ sym (rw (← q) front_is))
        where
          front_is : take n (entries_of o s) ≡ w.met
          front_is = ap (take n) w.walked.whole ∙ take_at w.met (entries_from o s w.walked.fuel at) n (sym w.number)

      pub fill_on : n < length t → (y : ℕ) → y ≡ entry_of s p.begin p.end → Filling o s t₀ (set t n y) p.next (n + 1)
      fill_on k y i = record {
        met = w.met ++ (entry_of s p.begin p.end ∷ []);
        walked = on;
        number = omega (arith, w.number, length-append w.met (entry_of s p.begin p.end ∷ []));
        room = omega (arith, w.kept);
        kept = length-set t n y ∙ w.kept;
        front = rw (add-one n, take-suc-set t n y k, w.front, i);
        rest = rw (add-one n) (drop-set-lt (suc n) t n y (omega arith) ∙ next t n ∙ ap (drop 1) w.rest ∙ sym (next t₀ n));
      }
        where
          next : (u : List ℕ) (n : ℕ) → drop (suc n) u ≡ drop 1 (drop n u)
          next u n = let z : suc n ≡ n + 1 = omega arith in ap (λ (m : ℕ). drop m u) z ∙ sym (drop-drop 1 n u)

-- ---- what comes of it

pub cleared : (t t' t'' : List ℕ) → length t' ≡ length t → t'' ≡ replicate (length t') 0 → t'' ≡ replicate (length t) 0
cleared t t' t'' l e = e ∙ ap (λ (n : ℕ). replicate n 0) l

pub zeros_all : (t : List ℕ) → replicate (length t) 0 ≡ zeroed (length t) t
zeros_all t = sym (ap (λ (u : List ℕ). replicate (length t) 0 ++ u) (drop_of_length-le t {i = length t} (omega arith)) ∙ append-nil (replicate (length t) 0))

module _ (o : Source) (s t t₁ : List ℕ) (x : Option ℕ) (w : Fills (entries_of o s) t t₁ x) where
  pub filled_front : x ≡ None → t₁ ≡ take (length t₁) (entries_of o s)
  filled_front h = go (rw h at w)
    where
      go : Fills (entries_of o s) t t₁ None → t₁ ≡ take (length t₁) (entries_of o s)
      go v = v.2 ∙ ap (λ (n : ℕ). take n (entries_of o s)) (sym v.1)

  pub passed : x ≡ None → (r : ℕ) → r ≡ first_twin o s → (t₂ : List ℕ) → t₂ ≡ replicate (length t₁) 0
      → ◌≡◌ {A = Searched} (record { answer = r; table = t₂ }) (searched o s t)
  unfolding searched
  passed h r e t₂ i = go (rw h at w)
    where
      go : Fills (entries_of o s) t t₁ None → ◌≡◌ {A = Searched} (record { answer = r; table = t₂ }) (searched o s t)
      go v = rw (e, i, v.1, lt-leb (length (entries_of o s)) (length t) v.0)
          (ap (λ (u : List ℕ). record { answer = first_twin o s; table = u }) (zeros_all t))

  module _ (n : ℕ) (h : x ≡ Some n) (y : Option ℕ) (t₂ : List ℕ) (e : ◌≡◌ {A = Afterwards} (record { answer = y; table = t₂ }) (divided s t₁ n)) where
    all : Fills (entries_of o s) t t₁ (Some n)
    all = rw h at w

    unfolding_divided : divided s t₁ n ≡ afterwards (Some (first_twin o s)) (zeroed n t)
    unfolding divided first_twin
    unfolding_divided =
        let v = all in
        rw (le-ltb (length t₁) n (omega (arith, v.1, v.2)), v.3, entries_fit o s (length s) 0, v.4)

    pub divided_done : (r : ℕ) → r ≡ unwrap_or y 0 → ◌≡◌ {A = Searched} (record { answer = r; table = t₂ }) (searched o s t)
    unfolding searched
    divided_done r q =
        let v = all in
        let a : r ≡ first_twin o s = q ∙ ap (λ (u : Afterwards). unwrap_or u.answer 0) (e ∙ unfolding_divided) in
        let b : t₂ ≡ zeroed n t = ap (λ (u : Afterwards). u.table) (e ∙ unfolding_divided) in
        rw (a, b, ← v.0, le-leb n (length t) v.2)
