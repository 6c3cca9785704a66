-- Views: what the code knows at each return, and that a view lies in the payload.
use Rattle.std.specs.Prelude.{Option, None, Some, Result, Err, Ok}
use Prim.Native.Nat.{ℕ, ◌+◌, ◌-◌, ◌≤◌}
use native.Mathlib.Omega.{arith}
use mathlib.Core.Path.{◌≡◌, refl, sym, ap, ◌∙◌}
use mathlib.Core.Bool.{Bool, true, false}
use mathlib.Core.List.{List, []}
use lib.ListN.{length}
use lib.Seq.{slice, length-slice}
use Rattle.number.specs.VarUInt.{var_uint}
use Rattle.format.specs.declared.Kind.{Kind}
use Rattle.format.specs.declared.Kind.TheVariants.{Null, Object, UniformObject, Array, UniformArray, Binary, String, IntegerPositive, IntegerNegative}
use Rattle.format.specs.declared.Kind.TheVariants.{Float32, Float64, False, True, ObjectAttachment, BinaryAttachment, Hash, Uuid, DateTime, TimeSpan}
use Rattle.format.specs.declared.Kind.TheVariants.{ObjectId, CustomById, CustomByName}
use Rattle.format.specs.declared.Class.{Class}
use Rattle.format.specs.declared.Class.TheVariants as C
use Rattle.format.specs.declared.Inner.{Inner}
use Rattle.format.specs.declared.Stop.{Stop}
use Rattle.places.specs.declared.Place.{Place}
use Rattle.places.specs.declared.Part.{Part}
use Rattle.places.specs.declared.Field.{Field}
use Rattle.places.specs.declared.PlaceError.{PlaceError}
use Rattle.places.specs.declared.PlaceError.TheVariants.{WrongKind, Fault}
use Rattle.format.specs.Kinds.{known, has_size}
use Rattle.format.specs.Parse.{Out, fault, got}
use Rattle.format.specs.Payload.{Head, class_of}
use Rattle.places.specs.Places.{check, checked_of, checked, from, step, name_in, name_view, taken, size_length, part_of, part, view_of, view}
use Rattle.places.specs.Made.{part_at}
use Rattle.front.specs.Between.{between}
use Rattle.places.proofs.ReadPlaces.{size_le}
use Rattle.places.proofs.StepFields.{in_along, step_inv}
use Rattle.open.proofs.OpenLaws.{Sound, sound_good, slice_is}
use Rattle.number.proofs.Clash.{clash}

-- ---- the name that a step meets

module _ (s : List ℕ) (c : Place) (l : Option Place) (x : Result (Option Field) PlaceError) (i : x ≡ step s c l) where
  pub name_failed : ((y : Option Field) → x ≡ Ok y → ⊥) → [] ≡ name_view s c l
  unfolding name_view
  name_failed a = at x refl
    where
      at : (y : Result (Option Field) PlaceError) → x ≡ y → [] ≡ name_in s (step s c l)
      at (Ok y) z = absurd (a y z)
      at (Err WrongKind) z = ap (name_in s) (sym z ∙ i)
      at (Err (Fault k)) z = ap (name_in s) (sym z ∙ i)

  module _ (y : Option Field) (z : x ≡ Ok y) where
    pub name_none : y ≡ None → [] ≡ name_view s c l
    unfolding name_view
    name_none e = ap (name_in s) (ap Ok (sym e) ∙ sym z ∙ i)

    module _ (p : Field) (e : y ≡ Some p) where
      met : step s c l ≡ Ok (Some p)
      met = sym i ∙ z ∙ ap Ok e

      pub name_order : p.name ≤ p.place.start
      name_order = step_inv s c l p.place p.name met λ f b w h. (in_along s c f b (from b l) p.place p.name w.inside h).name

      pub name_inside : p.place.start ≤ length s
      name_inside = step_inv s c l p.place p.name met λ f b w h.
          let k = in_along s c f b (from b l) p.place p.name w.inside h in omega (arith, k.order, k.within, w.inside)

      pub name_is : between p.name p.place.start s ≡ name_view s c l
      unfolding name_view
      name_is = rw met (sym (slice_is p.name p.place.start s))

pub ruleset name_laws = (name_failed, name_none, name_order, name_inside, name_is)

-- ---- a size

-- by what the payload is made of
abbrev sized : Class → Bool
sized (C.Fixed n) = false
sized C.Text = true
sized C.Positive = false
sized C.Negative = false
sized C.Wide = false
sized (C.Behind i) = true

sized_is : (k : Kind) → sized (class_of k) ≡ has_size k
unfolding has_size
sized_is = elim [
  | Null ↦ refl
  | Object ↦ refl
  | UniformObject ↦ refl
  | Array ↦ refl
  | UniformArray ↦ refl
  | Binary ↦ refl
  | String ↦ refl
  | IntegerPositive ↦ refl
  | IntegerNegative ↦ refl
  | Float32 ↦ refl
  | Float64 ↦ refl
  | False ↦ refl
  | True ↦ refl
  | ObjectAttachment ↦ refl
  | BinaryAttachment ↦ refl
  | Hash ↦ refl
  | Uuid ↦ refl
  | DateTime ↦ refl
  | TimeSpan ↦ refl
  | ObjectId ↦ refl
  | CustomById ↦ refl
  | CustomByName ↦ refl
]

module _ (k : Kind) (c : Class) (i : c ≡ class_of k) where
  pub sized_text : c ≡ C.Text → true ≡ has_size k
  sized_text z = ap sized (sym z ∙ i) ∙ sized_is k

  pub sized_behind : (j : Inner) → c ≡ C.Behind j → true ≡ has_size k
  sized_behind j z = ap sized (sym z ∙ i) ∙ sized_is k

  pub sized_not : (c ≡ C.Text → ⊥) → ((j : Inner) → c ≡ C.Behind j → ⊥) → false ≡ has_size k
  sized_not a b = at c refl
    where
      at : (d : Class) → c ≡ d → false ≡ has_size k
      at (C.Fixed n) z = ap sized (sym z ∙ i) ∙ sized_is k
      at C.Text z = absurd (a z)
      at C.Positive z = ap sized (sym z ∙ i) ∙ sized_is k
      at C.Negative z = ap sized (sym z ∙ i) ∙ sized_is k
      at C.Wide z = ap sized (sym z ∙ i) ∙ sized_is k
      at (C.Behind j) z = absurd (b j z)

pub ruleset sized_laws = (sized_text, sized_behind, sized_not)

module _ (w : Option Kind) (s : List ℕ) where
  pub size_unknown : w ≡ None → 0 ≡ size_length w s
  size_unknown z = rw z

  module _ (k : Kind) (z : w ≡ Some k) (t : Bool) (e : t ≡ has_size k) where
    pub size_none : t ≡ false → 0 ≡ size_length w s
    size_none h = rw (z, ← e, h)

    pub size_taken : t ≡ true → taken (var_uint s) ≡ size_length w s
    size_taken h = rw (z, ← e, h)

pub ruleset size_laws = (size_unknown, size_none, size_taken)

size_in_law : (w : Option Kind) (s : List ℕ) → size_length w s ≤ length s
size_in_law None s = omega arith
size_in_law (Some k) s = size_le k s

-- ---- a place's view

module _ (s : List ℕ) (p : Place) (x : Result (Unit {0}) Stop) (i : x ≡ checked s p) where
  pub part_fault : (k : Stop) → x ≡ Err k → Err k ≡ part s p
  unfolding part checked
  part_fault k z = at (check s p) (sym i ∙ z)
    where
      at : (o : Out Head) → checked_of o ≡ Err k → Err k ≡ part_of s p o
      at (fault j) h = cc
      at (got a fs r) h = clash (cc)

  module _ (z : x ≡ Ok tt) where
    good : Sound s p
    good = sound_good s p x i z

    pub place_order : p.start ≤ p.end
    place_order = good.order

    pub place_inside : p.end ≤ length s
    place_inside = good.inside

    module _ (w : Option Kind) (e : w ≡ known p.kind) (n : ℕ) (j : n ≡ size_length w (between p.start p.end s)) where
      pub part_is : part_at (p.start + n) p.end ≡ part s p
      unfolding part checked
      part_is = at (check s p) (sym i ∙ z)
        where
          at : (o : Out Head) → checked_of o ≡ Ok tt → part_at (p.start + n) p.end ≡ part_of s p o
          at (fault j) h = clash (cc)
          at (got a fs r) h = rw (j, e, ← slice_is p.start p.end s)

      pub part_fits : p.start + n ≤ p.end
      part_fits =
          let l = length-slice p.start p.end s good.inside in
          let u : length (between p.start p.end s) ≡ p.end - p.start = rw (← slice_is p.start p.end s) l in
          omega (arith, j, size_in_law w (between p.start p.end s), good.order)

pub ruleset part_laws = (part_fault, place_order, place_inside, part_is, part_fits)

-- where the part of a place that passes stands
part_stands : (s : List ℕ) (p : Place) (o : Out Head) → check s p ≡ o → (v : Part) → part_of s p o ≡ Ok v → (v.begin ≤ v.end) × (v.end ≤ length s)
unfolding checked
part_stands s p (fault k) y v h = clash (cc)
part_stands s p (got u fs r) y v h =
    let g = sound_good s p (Ok tt) (rw y) refl in
    let l = length-slice p.start p.end s g.inside in
    let w : ◌≡◌ {A = Part} (record { begin = p.start + size_length (known p.kind) (slice p.start p.end s); end = p.end }) v = cc in
    let b : p.start + size_length (known p.kind) (slice p.start p.end s) ≡ v.begin = ap (λ v. v.begin) w in
    let c : p.end ≡ v.end = ap (λ v. v.end) w in
    (omega (arith, size_in_law (known p.kind) (slice p.start p.end s), g.order), omega (arith, g.inside))

module _ (s : List ℕ) (p : Place) (x : Result Part Stop) (i : x ≡ part s p) where
  pub view_none : ((v : Part) → x ≡ Ok v → ⊥) → [] ≡ view s p
  unfolding view
  view_none a = rw (← i) (at x refl)
    where
      at : (y : Result Part Stop) → x ≡ y → [] ≡ view_of s y
      at (Ok v) z = absurd (a v z)
      at (Err k) z = refl

  module _ (v : Part) (z : x ≡ Ok v) where
    pub view_is : between v.begin v.end s ≡ view s p
    unfolding view
    view_is = rw (← i, z) (sym (slice_is v.begin v.end s))

    pub view_order : v.begin ≤ v.end
    unfolding part
    view_order = (part_stands s p (check s p) refl v (sym i ∙ z)).0

    pub view_inside : v.end ≤ length s
    unfolding part
    view_inside = (part_stands s p (check s p) refl v (sym i ∙ z)).1

pub ruleset view_laws = (view_none, view_is, view_order, view_inside)
