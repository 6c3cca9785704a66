-- Stepping as a whole: along a path, through a whole payload; where siblings stand; the first of a name. With Show.antt these are the words of the theorems in
-- proofs/Walk.antt.
use Rattle.std.specs.Prelude.{ℕ, zero, suc, ◌+◌, ◌≤◌, ◌≡◌, ◌⊎◌, List, [], ◌∷◌, ◌++◌, map, Option, Some, None, Ok, Result, Err}
use Rattle.std.proofs.Math.Seq.{slice}
use Rattle.number.specs.BigEndian.{All}
use Rattle.places.specs.declared.Place.{Place}
use Rattle.format.specs.Kinds.{id}
use Rattle.format.specs.Tree.{Node, atom, array, object}
use Rattle.format.specs.Reader.{Standing, Named, Layout}
use Rattle.places.specs.Places.{step, name_view}
use Rattle.places.specs.Show.{unnamed, Shown}
use Rattle.places.specs.declared.PlaceError.TheVariants.{WrongKind, Fault}
use Rattle.places.specs.declared.Field.{Field}
use Rattle.places.specs.declared.PlaceError.{PlaceError}

-- ---- along a path: which field, counted from 0, in the top field, then which in that one, and so on

abbrev pub nth : {A : Type 0} → ℕ → List A → Option A
nth i [] = None
nth zero (x ∷ xs) = Some x
nth (suc i) (x ∷ xs) = nth i xs

abbrev pub fields_of : {A : Type 0} → Node A → List (Named A)
fields_of (atom v) = []
fields_of (array xs) = map unnamed xs
fields_of (object xs) = xs

-- a field with its name, and how many levels it is
abbrev pub Reached : Type 0
Reached = (d : ℕ) × Named (Standing (Layout d))

abbrev pub onward : {A B : Type 0} → (A → Option B) → Option A → Option B
onward f None = None
onward f (Some x) = f x

-- in the layout
abbrev pub field_at : List ℕ → (d : ℕ) → Named (Standing (Layout d)) → Option Reached
field_at [] d x = Some (d, x)
field_at (i ∷ is) zero x = None
field_at (i ∷ is) (suc d) x = onward (field_at is d) (nth i (fields_of x.1.1))

-- by steps: the name view n of a step and the place that it gives; `more` steps on behind it
abbrev pub told : List ℕ → Result (Option Field) PlaceError → Option (Named Place)
told n (Ok (Some p)) = Some (n, p.place)
told n (Ok None) = None
told n (Err WrongKind) = None
told n (Err (Fault k)) = None

abbrev pub behind : (Place → Option (Named Place)) → Result (Option Field) PlaceError → Option (Named Place)
behind more (Ok (Some p)) = more p.place
behind more (Ok None) = None
behind more (Err WrongKind) = None
behind more (Err (Fault k)) = None

abbrev pub step_to : ℕ → List ℕ → Place → Option Place → Option (Named Place)
step_to zero s c l = told (name_view s c l) (step s c l)
step_to (suc i) s c l = behind (λ q. step_to i s c (Some q)) (step s c l)

abbrev pub place_at : List ℕ → List ℕ → Named Place → Option (Named Place)
place_at [] s x = Some x
place_at (i ∷ is) s x = onward (place_at is s) (step_to i s x.1 None)

-- there is no field and no place; or the name view met is the field's name, and its place shows the field: its kind and its value
abbrev pub Agree : List ℕ → Option Reached → Option (Named Place) → Type 0
Agree s None None = Unit {0}
Agree s None (Some q) = ⊥
Agree s (Some x) None = ⊥
Agree s (Some x) (Some q) = (q.0 ≡ x.1.0) × Shown x.0 s q.1 x.1.1

-- ---- all that stepping meets, and all that stands in a layout

-- a field's name, kind and depth; or the answer with which stepping ends, in a container or on a leaf
pub data Event : Type 0 where
  met : List ℕ → ℕ → ℕ → Event
  ended : Result (Option Field) PlaceError → Event

-- what is met behind a step's answer: `below` the field, and `more` behind it
abbrev pub events_at : List ℕ → (Place → List Event) → (Place → List Event) → Result (Option Field) PlaceError → List Event
events_at s below more (Ok (Some p)) = met (slice p.name p.place.start s) p.place.kind p.place.depth ∷ (below p.place ++ more p.place)
events_at s below more (Ok None) = ended (Ok None) ∷ []
events_at s below more (Err WrongKind) = ended (Err WrongKind) ∷ []
events_at s below more (Err (Fault k)) = ended (Err (Fault k)) ∷ []

-- the number bounds the steps, and the container's end is enough
abbrev pub steps_from : (Place → List Event) → ℕ → List ℕ → Place → Option Place → List Event
steps_from below zero s c l = []
steps_from below (suc n) s c l = events_at s below (λ q. steps_from below n s c (Some q)) (step s c l)

-- stepping from the start of c, and of each field met there, d levels down
abbrev pub stepping : (d : ℕ) → List ℕ → Place → List Event
stepping zero s c = []
stepping (suc d) s c = steps_from (stepping d s) (suc c.end) s c None

-- the fields of a container, in order, at their depth, each with all below it; and then no more
abbrev pub field_events : {A : Type 0} → (Standing A → List Event) → ℕ → List (Named (Standing A)) → List Event
field_events below depth [] = ended (Ok None) ∷ []
field_events below depth (x ∷ xs) = met x.0 (id x.1.0) depth ∷ (below x.1 ++ field_events below depth xs)

-- a leaf has none
abbrev pub node_events : {A : Type 0} → (Standing A → List Event) → ℕ → Node (Standing A) → List Event
node_events below depth (atom v) = ended (Err WrongKind) ∷ []
node_events below depth (array xs) = field_events below depth (map unnamed xs)
node_events below depth (object xs) = field_events below depth xs

-- all that stands below a field, from this depth on
abbrev pub events : (d : ℕ) → ℕ → Standing (Layout d) → List Event
events zero depth x = []
events (suc d) depth x = node_events (events d (depth + 1)) depth x.1

-- ---- siblings

-- where each field stands, with all before its payload: from where the last ended to its own end
abbrev pub ranges : ℕ → List Place → List (ℕ × ℕ)
ranges a [] = []
ranges a (q ∷ ps) = (a, q.end) ∷ ranges q.end ps

-- a payload alone, as a place says
abbrev pub payload_range : Place → ℕ × ℕ
payload_range q = (q.start, q.end)

-- each ends no later than any behind it begins
abbrev pub Apart : List (ℕ × ℕ) → Type 0
Apart [] = Unit {0}
Apart (r ∷ rs) = All (λ t. r.1 ≤ t.0) rs × Apart rs

-- ---- the first of a name

-- q is the place of the first field with the name m
abbrev pub IsFirst : {A : Type 0} → List ℕ → Place → List Place → List (Named A) → Type 0
IsFirst m q [] xs = ⊥
IsFirst m q (p ∷ ps) [] = ⊥
IsFirst m q (p ∷ ps) (x ∷ xs) = ((x.0 ≡ m) × (q ≡ p)) ⊎ ((x.0 ≡ m → ⊥) × IsFirst m q ps xs)
