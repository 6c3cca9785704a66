-- What a walk says of its places: one for each field, where they stand, what stepping meets in all, and what the first of a name is.
use Rattle.std.specs.Prelude.{Option, Some, None, Result, Ok}
use Prim.Native.Nat.{ℕ, zero, suc, ◌+◌, ◌≤◌, ◌<◌}
use native.Mathlib.Omega.{arith}
use mathlib.Core.Path.{◌≡◌, refl, sym, ap, ◌∙◌}
use mathlib.Core.Logic.{◌↔◌, ◌⊎◌, inl, inr}
use mathlib.Core.Bool.{Bool, true, false, cond}
use mathlib.Core.List.{List, [], ◌∷◌, ◌++◌, map}
use lib.ListN.{length}
use lib.Seq.{slice, slice_empty}
use Rattle.number.specs.BigEndian.{All}
use Rattle.text.specs.Equal.{equal}
use Rattle.text.proofs.Laws.{equal_is, equal_not}
use Rattle.format.specs.declared.Kind.{Kind}
use Rattle.places.specs.declared.Place.{Place}
use Rattle.places.specs.declared.PlaceError.{PlaceError}
use Rattle.format.specs.Kinds.{id}
use Rattle.format.specs.Tree.{Node, atom, array, object}
use Rattle.format.specs.Encoding.{concat}
use Rattle.format.specs.Payload.{Payload, payload}
use Rattle.format.specs.Reader.{Standing, Named, Layout}
use Rattle.places.specs.Places.{name_view}
use Rattle.places.specs.Show.{Walk, first_of, ShownFields, ShownNode, Shown, unnamed}
use Rattle.places.specs.Stepping.{nth, fields_of, onward, field_at, step_to, place_at, Agree, Event, met, steps_from, stepping, field_events, node_events}
use Rattle.places.specs.Stepping.{events, ranges, payload_range, Apart, IsFirst}
use Rattle.format.proofs.Lists.{all_of}
use Rattle.places.proofs.Parts.{slice_join}
use Rattle.places.proofs.Steps.{walk_few}
use Rattle.number.proofs.Clash.{clash}

module _ {A : Type 0} (P : Place → Standing A → Type 0) (s : List ℕ) (c : Place) (how : Payload) where
  pub walk_each : (a : ℕ) (l : Option Place) (ps : List Place) (xs : List (Named (Standing A))) → Walk P s c how a l ps xs → length ps ≡ length xs
  walk_each a l [] [] w = refl
  walk_each a l [] (x ∷ xs) w = absurd w
  walk_each a l (q ∷ ps) [] w = absurd w
  walk_each a l (q ∷ ps) (x ∷ xs) w = ap suc (walk_each q.end (Some q) ps xs w.1)

  pub walk_ranges : (a : ℕ) (l : Option Place) (ps : List Place) (xs : List (Named (Standing A))) → Walk P s c how a l ps xs
      → All (λ r. (a ≤ r.0) × (r.0 < r.1) × (r.1 ≤ c.end)) (ranges a ps) × Apart (ranges a ps)
  walk_ranges a l [] [] w = (tt, tt)
  walk_ranges a l [] (x ∷ xs) w = absurd w
  walk_ranges a l (q ∷ ps) [] w = absurd w
  walk_ranges a l (q ∷ ps) (x ∷ xs) w =
      let i = walk_ranges q.end (Some q) ps xs w.1 in
      let b = w.0.some_byte in (
        ((omega arith, b, w.0.within), all_of _ _ (λ r j. (omega (arith, j.0), j.1, j.2)) (ranges q.end ps) i.0),
        (all_of _ _ (λ r j. j.0) (ranges q.end ps) i.0, i.1),
      )

  pub walk_fills : (a : ℕ) (l : Option Place) (ps : List Place) (xs : List (Named (Standing A))) → Walk P s c how a l ps xs
      → concat (λ r. slice r.0 r.1 s) (ranges a ps) ≡ slice a c.end s
  walk_fills a l [] [] w = rw (w.1, slice_empty c.end s)
  walk_fills a l [] (x ∷ xs) w = absurd w
  walk_fills a l (q ∷ ps) [] w = absurd w
  walk_fills a l (q ∷ ps) (x ∷ xs) w =
      rw (walk_fills q.end (Some q) ps xs w.1) (slice_join a q.end c.end s (omega (arith, w.0.some_byte)) w.0.within)

  walk_behind : (a : ℕ) (l : Option Place) (ps : List Place) (xs : List (Named (Standing A))) → Walk P s c how a l ps xs
      → All (λ r. a ≤ r.0) (map payload_range ps)
  walk_behind a l [] [] w = tt
  walk_behind a l [] (x ∷ xs) w = absurd w
  walk_behind a l (q ∷ ps) [] w = absurd w
  walk_behind a l (q ∷ ps) (x ∷ xs) w = (
    omega (arith, w.0.begins, w.0.then_name),
    all_of _ _ (λ r j. omega (arith, j, w.0.some_byte)) (map payload_range ps) (walk_behind q.end (Some q) ps xs w.1),
  )

  pub walk_apart : (a : ℕ) (l : Option Place) (ps : List Place) (xs : List (Named (Standing A))) → Walk P s c how a l ps xs → Apart (map payload_range ps)
  walk_apart a l [] [] w = tt
  walk_apart a l [] (x ∷ xs) w = absurd w
  walk_apart a l (q ∷ ps) [] w = absurd w
  walk_apart a l (q ∷ ps) (x ∷ xs) w = (walk_behind q.end (Some q) ps xs w.1, walk_apart q.end (Some q) ps xs w.1)

  -- if each field is stepped through to the events below it, then so are they all
  pub walk_events : (below : Place → List Event) (within : Standing A → List Event)
      → ((q : Place) (y : Standing A) → q.depth ≡ c.depth + 1 → P q y → (below q ≡ within y) × (q.kind ≡ id y.0))
      → (n a : ℕ) (l : Option Place) (ps : List Place) (xs : List (Named (Standing A))) → length ps < n → Walk P s c how a l ps xs
      → steps_from below n s c l ≡ field_events within (c.depth + 1) xs
  unfolding name_view
  walk_events below within f zero a l ps xs h w = absurd (omega arith)
  walk_events below within f (suc n) a l [] [] h w = rw w.0
  walk_events below within f (suc n) a l [] (x ∷ xs) h w = absurd w
  walk_events below within f (suc n) a l (q ∷ ps) [] h w = absurd w
  walk_events below within f (suc n) a l (q ∷ ps) (x ∷ xs) h w =
      let e : slice w.0.name_start q.start s ≡ x.0 = rw w.0.stepped at w.0.named in
      let i = f q x.1 w.0.deeper w.0.shown in
      rw (w.0.stepped, e) (go w.0.deeper i.0 i.1 (walk_events below within f n q.end (Some q) ps xs (omega arith) w.1))
    where
      go : q.depth ≡ c.depth + 1 → below q ≡ within x.1 → q.kind ≡ id x.1.0 → steps_from below n s c (Some q) ≡ field_events within (c.depth + 1) xs
          → met x.0 q.kind q.depth ∷ (below q ++ steps_from below n s c (Some q)) ≡ met x.0 (id x.1.0) (c.depth + 1)
          ∷ (within x.1 ++ field_events within (c.depth + 1) xs)
      go e f g h = cc

-- ---- the whole

below_events : (d : ℕ) (s : List ℕ) (c q : Place) (y : Standing (Layout d)) → (Shown d s q y → stepping d s q ≡ events d (q.depth + 1) y)
    → q.depth ≡ c.depth + 1 → Shown d s q y → (stepping d s q ≡ events d (c.depth + 1 + 1) y) × (q.kind ≡ id y.0)
below_events zero s c q y h e i = absurd i
below_events (suc d) s c q y h e i = (h i ∙ ap (λ (n : ℕ). events (suc d) (n + 1) y) e, i.kind)

node_events_law : (d : ℕ) (s : List ℕ) (c : Place) (k : Kind) (t : Node (Standing (Layout d)))
    → ((q : Place) (y : Standing (Layout d)) → Shown d s q y → stepping d s q ≡ events d (q.depth + 1) y)
    → ShownNode (Shown d s) s k c t → steps_from (stepping d s) (suc c.end) s c None ≡ node_events (events d (c.depth + 1 + 1)) (c.depth + 1) t
node_events_law d s c k (atom v) h i = rw (i.no_step None)
node_events_law d s c k (array xs) h i = all_events i.items
  where
    all_events : (f : ShownFields (Shown d s) s k c (map unnamed xs))
        → steps_from (stepping d s) (suc c.end) s c None ≡ field_events (events d (c.depth + 1 + 1)) (c.depth + 1) (map unnamed xs)
    all_events f = walk_events (Shown d s) s c (payload k) (stepping d s) (events d (c.depth + 1 + 1)) (λ q y e j. below_events d s c q y (h q y) e j)
        (suc c.end) f.contents None f.places (map unnamed xs)
        (omega (arith, walk_few (Shown d s) s c (payload k) f.contents None f.places (map unnamed xs) f.walk)) f.walk
node_events_law d s c k (object xs) h i = all_events i.fields
  where
    all_events : (f : ShownFields (Shown d s) s k c xs)
        → steps_from (stepping d s) (suc c.end) s c None ≡ field_events (events d (c.depth + 1 + 1)) (c.depth + 1) xs
    all_events f = walk_events (Shown d s) s c (payload k) (stepping d s) (events d (c.depth + 1 + 1)) (λ q y e j. below_events d s c q y (h q y) e j)
        (suc c.end) f.contents None f.places xs
        (omega (arith, walk_few (Shown d s) s c (payload k) f.contents None f.places xs f.walk)) f.walk

pub steps_events : (d : ℕ) (s : List ℕ) (c : Place) (x : Standing (Layout d)) → Shown d s c x → stepping d s c ≡ events d (c.depth + 1) x
steps_events zero s c x i = absurd i
steps_events (suc d) s c x i = node_events_law d s c x.0 x.1 (λ q y j. steps_events d s q y j) i.node

-- ---- along a path

-- the i-th field and the place of the i-th step
abbrev Alike : {A : Type 0} → (Place → Standing A → Type 0) → Option (Named (Standing A)) → Option (Named Place) → Type 0
Alike P None None = Unit {0}
Alike P None (Some q) = ⊥
Alike P (Some x) None = ⊥
Alike P (Some x) (Some q) = (q.0 ≡ x.0) × P q.1 x.1

walk_alike : {A : Type 0} (P : Place → Standing A → Type 0) (s : List ℕ) (c : Place) (how : Payload) (i a : ℕ) (l : Option Place) (ps : List Place)
    (xs : List (Named (Standing A))) → Walk P s c how a l ps xs
    → Alike P (nth i xs) (step_to i s c l)
walk_alike P s c how zero a l [] [] w = rw w.0 tt
walk_alike P s c how (suc i) a l [] [] w = rw w.0 tt
walk_alike P s c how i a l [] (x ∷ xs) w = absurd w
walk_alike P s c how i a l (q ∷ ps) [] w = absurd w
walk_alike P s c how zero a l (q ∷ ps) (x ∷ xs) w = rw w.0.stepped (w.0.named, w.0.shown)
walk_alike P s c how (suc i) a l (q ∷ ps) (x ∷ xs) w = rw w.0.stepped (walk_alike P s c how i q.end (Some q) ps xs w.1)

node_alike : (d : ℕ) (s : List ℕ) (c : Place) (k : Kind) (j : ℕ) (t : Node (Standing (Layout d))) → ShownNode (Shown d s) s k c t
    → Alike (Shown d s) (nth j (fields_of t)) (step_to j s c None)
node_alike d s c k zero (atom v) i = rw (i.no_step None) tt
node_alike d s c k (suc j) (atom v) i = rw (i.no_step None) tt
node_alike d s c k j (array xs) i = walk_alike (Shown d s) s c (payload k) j i.items.contents None i.items.places (map unnamed xs) i.items.walk
node_alike d s c k j (object xs) i = walk_alike (Shown d s) s c (payload k) j i.fields.contents None i.fields.places xs i.fields.walk

pub path_agrees : (path : List ℕ) (d : ℕ) (s : List ℕ) (x : Named (Standing (Layout d))) (q : Named Place) → q.0 ≡ x.0 → Shown d s q.1 x.1
    → Agree s (field_at path d x) (place_at path s q)
path_agrees [] d s x q e i = (e, i)
path_agrees (j ∷ js) zero s x q e i = absurd i
path_agrees (j ∷ js) (suc d) s x q e i =
    on (nth j (fields_of x.1.1)) (step_to j s q.1 None) (node_alike d s q.1 x.1.0 j x.1.1 i.node) (path_agrees js d s)
  where
    on : (o : Option (Named (Standing (Layout d)))) (r : Option (Named Place)) → Alike (Shown d s) o r
        → ((y : Named (Standing (Layout d))) (z : Named Place) → z.0 ≡ y.0 → Shown d s z.1 y.1 → Agree s (field_at js d y) (place_at js s z))
        → Agree s (onward (field_at js d) o) (onward (place_at js s) r)
    on None None h f = tt
    on None (Some z) h f = absurd h
    on (Some y) None h f = absurd h
    on (Some y) (Some z) h f = f y z h.0 h.1

-- ---- the first of a name

at_never : {X : Type 0} {q : Place} → ◌≡◌ {A = Result (Option Place) PlaceError} (Ok (Some q)) (Ok None) → X
at_never h = clash (cc)

none_in : {A : Type 0} (m : List ℕ) (ps : List Place) (xs : List (Named A)) → length ps ≡ length xs → first_of m ps xs ≡ Ok None → All (λ x. x.0 ≡ m → ⊥) xs
none_in m [] [] l h = tt
none_in m [] (x ∷ xs) l h = absurd (omega arith)
none_in m (p ∷ ps) [] l h = tt
none_in m (p ∷ ps) (x ∷ xs) l h = go (equal x.0 m) refl (none_in m ps xs (omega arith)) h
  where
    go : (b : Bool) → equal x.0 m ≡ b → (first_of m ps xs ≡ Ok None → All (λ x. x.0 ≡ m → ⊥) xs) → cond b (Ok (Some p)) (first_of m ps xs) ≡ Ok None
        → (x.0 ≡ m → ⊥) × All (λ x. x.0 ≡ m → ⊥) xs
    go true e ih h = at_never h
    go false e ih h = (equal_not x.0 m e, ih h)

none_of : {A : Type 0} (m : List ℕ) (ps : List Place) (xs : List (Named A)) → All (λ x. x.0 ≡ m → ⊥) xs → first_of m ps xs ≡ Ok None
none_of m [] xs h = refl
none_of m (p ∷ ps) [] h = refl
none_of m (p ∷ ps) (x ∷ xs) h = go (equal x.0 m) refl (none_of m ps xs h.1)
  where
    go : (b : Bool) → equal x.0 m ≡ b → first_of m ps xs ≡ Ok None → cond b (Ok (Some p)) (first_of m ps xs) ≡ Ok None
    go true e ih = absurd (h.0 (equal_is x.0 m e))
    go false e ih = ih

pub none_found : {A : Type 0} (m : List ℕ) (ps : List Place) (xs : List (Named A)) → length ps ≡ length xs
    → (first_of m ps xs ≡ Ok None) ↔ All (λ x. x.0 ≡ m → ⊥) xs
none_found m ps xs l = (none_in m ps xs l, none_of m ps xs)

first_in : {A : Type 0} (m : List ℕ) (q : Place) (ps : List Place) (xs : List (Named A)) → first_of m ps xs ≡ Ok (Some q) → IsFirst m q ps xs
first_in m q [] xs h = at_never (sym h)
first_in m q (p ∷ ps) [] h = at_never (sym h)
first_in m q (p ∷ ps) (x ∷ xs) h = go (equal x.0 m) refl (first_in m q ps xs) h
  where
    go : (b : Bool) → equal x.0 m ≡ b → (first_of m ps xs ≡ Ok (Some q) → IsFirst m q ps xs) → cond b (Ok (Some p)) (first_of m ps xs) ≡ Ok (Some q)
        → ((x.0 ≡ m) × (q ≡ p)) ⊎ ((x.0 ≡ m → ⊥) × IsFirst m q ps xs)
    go true e ih h = inl (equal_is x.0 m e, cc)
    go false e ih h = inr (equal_not x.0 m e, ih h)

first_of_law : {A : Type 0} (m : List ℕ) (q : Place) (ps : List Place) (xs : List (Named A)) → IsFirst m q ps xs → first_of m ps xs ≡ Ok (Some q)
first_of_law m q [] xs h = absurd h
first_of_law m q (p ∷ ps) [] h = absurd h
first_of_law m q (p ∷ ps) (x ∷ xs) h = go (equal x.0 m) refl (first_of_law m q ps xs) h
  where
    go : (b : Bool) → equal x.0 m ≡ b → (IsFirst m q ps xs → first_of m ps xs ≡ Ok (Some q)) → ((x.0 ≡ m) × (q ≡ p)) ⊎ ((x.0 ≡ m → ⊥) × IsFirst m q ps xs)
        → cond b (Ok (Some p)) (first_of m ps xs) ≡ Ok (Some q)
    go true e ih (inl h) = ap (λ z. Ok (Some z)) (sym h.1)
    go true e ih (inr h) = absurd (h.0 (equal_is x.0 m e))
    go false e ih (inl h) = absurd (equal_not x.0 m e h.0)
    go false e ih (inr h) = ih h.1

pub first_found : {A : Type 0} (m : List ℕ) (q : Place) (ps : List Place) (xs : List (Named A)) → (first_of m ps xs ≡ Ok (Some q)) ↔ IsFirst m q ps xs
first_found m q ps xs = (first_in m q ps xs, first_of_law m q ps xs)
