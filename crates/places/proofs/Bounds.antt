-- The numbers that bound how often something is done in the definitions are large enough: larger ones change nothing.
use Rattle.std.specs.Prelude.{Option, Some, None, Ok, Result, Err}
use Prim.Native.Nat.{ℕ, zero, suc, ◌+◌, ◌≤◌, ◌<◌}
use native.Mathlib.Omega.{arith}
use mathlib.Core.Path.{◌≡◌, refl, sym, ap, ◌∙◌}
use mathlib.Core.Bool.{Bool, true, false}
use mathlib.Core.List.{List, [], ◌∷◌}
use lib.ListN.{length}
use lib.Seq.{slice}
use Rattle.text.specs.Equal.{equal}
use Rattle.format.specs.declared.Kind.{Kind}
use Rattle.format.specs.declared.Form.{Form}
use Rattle.format.specs.declared.Form.TheVariants as Fo
use Rattle.places.specs.declared.Place.{Place}
use Rattle.format.specs.Parse.{Out, got, bind, fill}
use Rattle.format.specs.Payload.{front, head}
use Rattle.format.specs.Reader.{contents, read_node, read}
use Rattle.places.specs.Places.{step, look_at, look_from}
use Rattle.places.specs.Stepping.{Event, events_at, steps_from}
use Rattle.places.specs.Siblings.{places_at, places_from, places_in}
use Rattle.format.proofs.Back.{never}
use Rattle.format.proofs.Local.{bind_got, whole_got}
use Rattle.format.proofs.HeadParts.{Full}
use Rattle.head.proofs.MeetingLaws.{bind_same}
use Rattle.places.proofs.FieldBytes.{Takes, field_takes}
use Rattle.places.proofs.StepFields.{behind, step_onward}
use Rattle.places.specs.declared.PlaceError.TheVariants.{WrongKind, Fault}
use Rattle.places.specs.declared.Field.{Field}
use Rattle.places.specs.declared.PlaceError.{PlaceError}
use Rattle.places.specs.Made.{step_met}

-- ---- fields that fill a part: a reader that uses up a byte at least where it reads

fill_more : {A : Type 0} (p : List ℕ → Out A) → Takes p → (m n : ℕ) (s : List ℕ) → length s ≤ m → length s ≤ n → fill p n s ≡ fill p m s
fill_more p t zero zero s h k = refl
fill_more p t zero (suc n) [] h k = refl
fill_more p t zero (suc n) (b ∷ s) h k = absurd (omega arith)
fill_more p t (suc m) zero [] h k = refl
fill_more p t (suc m) zero (b ∷ s) h k = absurd (omega arith)
fill_more p t (suc m) (suc n) [] h k = refl
fill_more p t (suc m) (suc n) (b ∷ s) h k = bind_same (p (b ∷ s)) _ _ λ x fs r e.
    let l = t (b ∷ s) x fs r e in
    ap (λ o. bind o λ xs q. got (x ∷ xs) [] q) (fill_more p t m n r (omega arith) (omega arith))

pub fill_enough : {A : Type 0} (p : List ℕ → Out A) → Takes p → (n : ℕ) (s : List ℕ) → length s ≤ n → fill p n s ≡ fill p (length s) s
fill_enough p t n s h = fill_more p t (length s) n s (omega arith) h

read_takes : (d : ℕ) (f : Form) → Full f → Takes (read d f)
unfolding read
read_takes zero f full s x fs r h = never h
read_takes (suc d) f full s x fs r h =
    bind_got (front f s) _ h λ y es q gs i k _. bind_got (read_node (read d) y.1 q) _ k λ t es' u gs' i' k' _.
    bind_got (head y.1 q) _ i' λ g es'' v gs'' i'' k'' _. whole_got (contents (read d) g) v k'' λ j l.
    let z : v ≡ r = cc in
    let o = field_takes f s full i i'' in
    omega (arith, ap length z)

-- The reader fills a container with an object's fields, which have type bytes or share one
pub fields_enough : (d n : ℕ) (s : List ℕ) → length s ≤ n → fill (read d Fo.Field) n s ≡ fill (read d Fo.Field) (length s) s
fields_enough d = fill_enough (read d Fo.Field) (read_takes d Fo.Field tt)

pub shared_fields_enough : (d : ℕ) (k : Kind) (n : ℕ) (s : List ℕ) → length s ≤ n
    → fill (read d (Fo.SharedField k)) n s ≡ fill (read d (Fo.SharedField k)) (length s) s
shared_fields_enough d k = fill_enough (read d (Fo.SharedField k)) (read_takes d (Fo.SharedField k) tt)

-- ---- steps: what is made of them, `go`, goes on behind a field only

module _ {X : Type 0} (s : List ℕ) (c : Place) (at : (Place → X) → Result (Option Field) PlaceError → X) (go : ℕ → Option Place → X)
    (turn : (n : ℕ) (l : Option Place) → go (suc n) l ≡ at (λ q. go n (Some q)) (step s c l))
    (only : (f g : Place → X) (x : Result (Option Field) PlaceError) → ((q : Place) (n : ℕ) → x ≡ step_met q n → f q ≡ g q) → at f x ≡ at g x) where
  steps_more : (m n : ℕ) (l : Option Place) → behind l ≤ c.end → c.end < m + behind l → c.end < n + behind l → go n l ≡ go m l
  steps_more zero n l h k o = absurd (omega arith)
  steps_more (suc m) zero l h k o = absurd (omega arith)
  steps_more (suc m) (suc n) l h k o =
      turn n l
      ∙ only (λ q. go n (Some q)) (λ q. go m (Some q)) (step s c l) (λ q a e.
      let i = step_onward s c l q a e in
      steps_more m n (Some q) i.within (omega (arith, i.further)) (omega (arith, i.further)))
      ∙ sym (turn m l)

  steps_enough : (n : ℕ) → c.end < n → go n None ≡ go (suc c.end) None
  steps_enough n h = steps_more (suc c.end) n None (omega arith) (omega arith) (omega arith)

module _ (s : List ℕ) (c : Place) where
  pub look_enough : (name : List ℕ) (n : ℕ) → c.end < n → look_from n s c name None ≡ look_from (suc c.end) s c name None
  look_enough name = steps_enough s c (look_at s name) (λ n l. look_from n s c name l) (λ n l. refl) only
    where
      by : (f g : Place → Result (Option Place) PlaceError) (p : Place) (b : Bool) → f p ≡ g p
          → ◌≡◌ {A = Result (Option Place) PlaceError} (elim b [ true ↦ Ok (Some p) | false ↦ f p ]) (elim b [ true ↦ Ok (Some p) | false ↦ g p ])
      by f g p true e = refl
      by f g p false e = e

      only : (f g : Place → Result (Option Place) PlaceError) (x : Result (Option Field) PlaceError) → ((q : Place) (n : ℕ) → x ≡ step_met q n → f q ≡ g q)
          → look_at s name f x ≡ look_at s name g x
      only f g (Ok (Some v)) e = by f g v.place (equal (slice v.name v.place.start s) name) (e v.place v.name refl)
      only f g (Ok None) e = refl
      only f g (Err WrongKind) e = refl
      only f g (Err (Fault k)) e = refl

  pub steps_from_enough : (below : Place → List Event) (n : ℕ) → c.end < n → steps_from below n s c None ≡ steps_from below (suc c.end) s c None
  steps_from_enough below = steps_enough s c (events_at s below) (λ n l. steps_from below n s c l) (λ n l. refl) only
    where
      only : (f g : Place → List Event) (x : Result (Option Field) PlaceError) → ((q : Place) (n : ℕ) → x ≡ step_met q n → f q ≡ g q)
          → events_at s below f x ≡ events_at s below g x
      only f g (Ok (Some v)) e = rw (e v.place v.name refl)
      only f g (Ok None) e = refl
      only f g (Err WrongKind) e = refl
      only f g (Err (Fault k)) e = refl

  pub places_enough : (n : ℕ) → c.end < n → places_from n s c None ≡ places_in s c
  unfolding places_in
  places_enough = steps_enough s c places_at (λ n l. places_from n s c l) (λ n l. refl) only
    where
      only : (f g : Place → List Place) (x : Result (Option Field) PlaceError) → ((q : Place) (n : ℕ) → x ≡ step_met q n → f q ≡ g q)
          → places_at f x ≡ places_at g x
      only f g (Ok (Some v)) e = ap (λ ps. v.place ∷ ps) (e v.place v.name refl)
      only f g (Ok None) e = refl
      only f g (Err WrongKind) e = refl
      only f g (Err (Fault k)) e = refl
