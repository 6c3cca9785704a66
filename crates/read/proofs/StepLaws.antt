-- A step: what the code knows at each return.
use Rattle.std.specs.Prelude.{Option, None, Some, Result, Err, Ok}
use Prim.Native.Nat.{ℕ, ◌+◌, ◌-◌, ◌≤◌, ◌<◌}
use native.Mathlib.Omega.{arith}
use mathlib.Core.Path.{◌≡◌, refl, sym, ap, ◌∙◌}
use mathlib.Core.Logic.{◌⊎◌, inl, inr}
use mathlib.Core.List.{List}
use lib.ListN.{length}
use lib.Seq.{slice, length-slice}
use borrow.Author.Tests.{lt-ltb, le-ltb, eq-eqb, ne_eqb}
use Rattle.format.specs.declared.Form.{Form}
use Rattle.format.specs.declared.Stop.{Stop}
use Rattle.format.specs.declared.Stop.TheVariants.{Early, TooDeep}
use Rattle.faults.specs.declared.Modes.{Modes}
use Rattle.faults.specs.declared.Faults.{Faults}
use Rattle.places.specs.declared.Place.{Place}
use Rattle.places.specs.declared.Field.{Field}
use Rattle.format.specs.Limits.{depth_limit, length_limit}
use Rattle.format.specs.Parse.{Out, fault, got}
use Rattle.format.specs.Payload.{Head, value, fields_in, items_in}
use Rattle.places.specs.Places.{check, place_with, met, meet, step_of, from, step_in, step_from, step}
use Rattle.head.specs.Code.{meet_at}
use Rattle.front.specs.Between.{between}
use Rattle.places.specs.Placed.{placed, field_in}
use Rattle.places.specs.Made.{field_met}
use Rattle.places.specs.declared.PlaceError.TheVariants as St
use Rattle.places.specs.declared.PlaceError.{PlaceError}
use Rattle.places.proofs.PlacedLaws.{placed_met}
use Rattle.places.proofs.StepFields.{Along, met_along}
use Rattle.open.specs.Opening.{opened_by}
use Rattle.open.specs.declared.Opened.TheVariants as O
use Rattle.open.specs.declared.Opened.{Opened}
use Rattle.read.specs.Code.{field_at}
use Rattle.open.proofs.OpenLaws.{slice_is, stands_fields, stands_items}
use Rattle.read.proofs.FieldLaws.{moved, field_moved}
use Rattle.head.specs.declared.Met.{Met}

abbrev step_by : Result Field Stop → Result (Option Field) PlaceError
step_by (Err k) = Err (St.Fault k)
step_by (Ok p) = Ok (Some p)

step_same : (o : Out (List ℕ × Place)) → step_by (field_in o) ≡ step_of o
step_same (fault k) = refl
step_same (got x fs r) = refl

-- ---- the field at a position

module _ (d a : ℕ) (f : Form) (m : Modes) (g : Faults) (s : List ℕ) (w : Result Met Stop) (j : w ≡ meet_at f m g s)
    (x : Result Field Stop) (i : x ≡ placed d w) where
  field_is : (y : Result Field Stop) → x ≡ y → moved a d y ≡ field_at d a f s
  field_is y z = ap (moved a d) (sym z ∙ i ∙ ap (placed d) j) ∙ field_moved d a f m g s

  pub field_stop : (k : Stop) → x ≡ Err k → Err k ≡ field_at d a f s
  field_stop k z = field_is (Err k) z

  module _ (p : Field) (z : x ≡ Ok p) where
    field_inside : Along f d (length s - length s) (length s) p.place p.name
    field_inside =
        met_along d (length s) f s p.place p.name (omega arith)
        (sym (step_same (met d (length s) f s)) ∙ ap step_by (sym (placed_met d f m g s) ∙ sym (ap (placed d) j) ∙ sym i ∙ z))

    pub name_inside : p.name ≤ length s
    name_inside = omega (arith, field_inside)

    pub start_inside : p.place.start ≤ length s
    start_inside = omega (arith, field_inside)

    pub end_inside : p.place.end ≤ length s
    end_inside = omega (arith, field_inside)

    pub field_read : (q : Place) → q ≡ place_with p.place.kind (a + p.place.start) (a + p.place.end) d → field_met q (a + p.name) ≡ field_at d a f s
    field_read q h = ap (λ r. field_met r (a + p.name)) h ∙ field_is (Ok p) z

pub ruleset field_laws = (field_stop, name_inside, start_inside, end_inside, field_read)

-- ---- a step in contents that were opened

module _ (s : List ℕ) (c : Place) (f : Form) (begin at : ℕ) where
  pub step_before : at < begin → Err (St.Fault Early) ≡ step_in s c f begin at
  step_before h = rw (lt-ltb at begin h)

  module _ (first : begin ≤ at) where
    pub step_past : c.end < at → Err (St.Fault Early) ≡ step_in s c f begin at
    step_past h = rw (le-ltb at begin first, lt-ltb c.end at h)

    module _ (last : at ≤ c.end) where
      pub step_end : at ≡ c.end → Ok None ≡ step_in s c f begin at
      step_end h = rw (le-ltb at begin first, le-ltb c.end at last, eq-eqb at c.end h)

      module _ (more : at ≡ c.end → ⊥) where
        pub step_deep : depth_limit ≤ c.depth → Err (St.Fault TooDeep) ≡ step_in s c f begin at
        unfolding meet
        step_deep h = rw (le-ltb at begin first, le-ltb c.end at last, ne_eqb at c.end more, lt-ltb depth_limit (c.depth + 1) (omega arith))

        module _ (shallow : c.depth < depth_limit) (inside : c.end ≤ length s) (x : Result Field Stop)
            (i : x ≡ field_at (c.depth + 1) at f (between at c.end s)) where
          step_read : (y : Result Field Stop) → x ≡ y → step_by y ≡ step_in s c f begin at
          unfolding meet field_at
          step_read y z =
              let l : at + length (slice at c.end s) ≡ c.end = omega (arith, length-slice at c.end s inside) in
              let w : y ≡ field_in (met (c.depth + 1) c.end f (slice at c.end s)) = rw (← slice_is at c.end s, l) at (sym z ∙ i) in
              rw (le-ltb at begin first, le-ltb c.end at last, ne_eqb at c.end more, le-ltb depth_limit (c.depth + 1) (omega arith))
              (ap step_by w ∙ step_same (met (c.depth + 1) c.end f (slice at c.end s)))

          pub step_stop : (k : Stop) → x ≡ Err k → Err (St.Fault k) ≡ step_in s c f begin at
          step_stop k z = step_read (Err k) z

          pub step_field : (p : Field) → x ≡ Ok p → Ok (Some p) ≡ step_in s c f begin at
          step_field p z = step_read (Ok p) z

pub ruleset in_laws = (step_before, step_past, step_end, step_deep, step_stop, step_field)

-- ---- a step

abbrev stepping : List ℕ → Place → Option Place → Result Opened Stop → Result (Option Field) PlaceError
stepping s c l (Err k) = Err (St.Fault k)
stepping s c l (Ok O.Leaf) = Err St.WrongKind
stepping s c l (Ok (O.Fields f b)) = step_in s c f b (from b l)
stepping s c l (Ok (O.Items f b)) = step_in s c f b (from b l)

stepping_same : (s : List ℕ) (c : Place) (l : Option Place) (o : Out Head) → stepping s c l (opened_by c.end o) ≡ step_from s c l o
stepping_same s c l (fault k) = refl
stepping_same s c l (got (value v) fs r) = refl
stepping_same s c l (got (fields_in f b) fs r) = refl
stepping_same s c l (got (items_in f n b) fs r) = refl

module _ (s : List ℕ) (c : Place) (l : Option Place) (x : Result Opened Stop) (i : x ≡ opened_by c.end (check s c)) where
  step_is : (y : Result Opened Stop) → x ≡ y → stepping s c l y ≡ step s c l
  unfolding step
  step_is y z = ap (stepping s c l) (sym z ∙ i) ∙ stepping_same s c l (check s c)

  pub step_refused : (k : Stop) → x ≡ Err k → Err (St.Fault k) ≡ step s c l
  step_refused k z = step_is (Err k) z

  module _ (o : Opened) (z : x ≡ Ok o) where
    pub step_leaf : o ≡ O.Leaf → Err St.WrongKind ≡ step s c l
    step_leaf e = step_is (Ok O.Leaf) (z ∙ ap Ok e)

    module _ (f : Form) (b : ℕ) (e : (o ≡ O.Fields f b) ⊎ (o ≡ O.Items f b)) where
      on : step_in s c f b (from b l) ≡ step s c l
      on = by e
        where
          by : (o ≡ O.Fields f b) ⊎ (o ≡ O.Items f b) → step_in s c f b (from b l) ≡ step s c l
          by (inl h) = step_is (Ok (O.Fields f b)) (z ∙ ap Ok h)
          by (inr h) = step_is (Ok (O.Items f b)) (z ∙ ap Ok h)

      pub step_contents : (a : ℕ) (r : Result (Option Field) PlaceError) → r ≡ step_in s c f b a → a ≡ from b l → r ≡ step s c l
      step_contents a r k h = k ∙ ap (step_in s c f b) h ∙ on

      pub contents_ready : (c.end ≤ length s) × (length s ≤ length_limit)
      contents_ready = by e
        where
          by : (o ≡ O.Fields f b) ⊎ (o ≡ O.Items f b) → (c.end ≤ length s) × (length s ≤ length_limit)
          by (inl h) = let w = stands_fields s c x i f b (z ∙ ap Ok h) in (w.inside, w.short)
          by (inr h) = let w = stands_items s c x i f b (z ∙ ap Ok h) in (w.inside, w.short)

pub ruleset step_laws = (step_refused, step_leaf)
