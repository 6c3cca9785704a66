-- Lookup: the code checks the object once and then steps through its contents, and finds what steps with a check each find.
use Rattle.std.specs.Prelude.{Result, Err, Ok, Option, Some, None}
use Prim.Native.Nat.{ℕ, zero, suc, ◌+◌, ◌-◌, ◌≤◌, ◌<◌}
use native.Mathlib.Omega.{arith}
use mathlib.Core.Path.{◌≡◌, refl, sym, ap, ◌∙◌}
use mathlib.Core.Bool.{Bool, true, false}
use mathlib.Core.List.{List}
use lib.ListN.{length}
use lib.Seq.{slice}
use Rattle.text.specs.Equal.{equal}
use Rattle.format.specs.Limits.{length_limit}
use Rattle.format.specs.declared.Form.{Form}
use Rattle.format.specs.declared.Stop.{Stop}
use Rattle.places.specs.declared.Place.{Place}
use Rattle.format.specs.declared.Flaw.{Flaw}
use Rattle.format.specs.Parse.{Out, fault, got}
use Rattle.format.specs.Payload.{Head, value, fields_in, items_in}
use Rattle.places.specs.Places.{check, from, step_in, step, look_at, look_from, look_in, lookup}
use Rattle.places.specs.declared.PlaceError.TheVariants as F
use Rattle.places.specs.declared.Field.{Field}
use Rattle.places.specs.declared.PlaceError.{PlaceError}
use Rattle.places.specs.Made.{step_met}
use Rattle.front.specs.Between.{between}
use Rattle.open.specs.Opening.{opened_by}
use Rattle.open.specs.declared.Opened.TheVariants as O
use Rattle.open.specs.declared.Opened.{Opened}
use Rattle.read.specs.Code.{look_by}
use Rattle.format.proofs.HeadParts.{Full}
use Rattle.places.proofs.StepFields.{Along, in_along}
use Rattle.open.proofs.OpenLaws.{slice_is, stands_fields}

-- ---- where a field that a step meets stands

pub step_along : (s : List ℕ) (c : Place) (f : Form) (begin at : ℕ) → c.end ≤ length s → (x : Result (Option Field) PlaceError) → x ≡ step_in s c f begin at
    → (p : Place) (n : ℕ) → x ≡ step_met p n
    → Along f (c.depth + 1) at c.end p n
step_along s c f begin at i x e p n z = in_along s c f begin at p n i (sym e ∙ z)

-- ---- steps with a check each, and steps in contents that were checked once

look_cong : (s m : List ℕ) (g h : Place → Result (Option Place) PlaceError) → ((p : Place) → g p ≡ h p)
    → (x : Result (Option Field) PlaceError) → look_at s m g x ≡ look_at s m h x
look_cong s m g h e (Ok (Some x)) = at (equal (slice x.name x.place.start s) m)
  where
    at : (t : Bool) → ◌≡◌ {A = Result (Option Place) PlaceError} (elim t [ true ↦ Ok (Some x.place) | false ↦ g x.place ])
        (elim t [ true ↦ Ok (Some x.place) | false ↦ h x.place ])
    at true = refl
    at false = e x.place
look_cong s m g h e (Ok None) = refl
look_cong s m g h e (Err F.WrongKind) = refl
look_cong s m g h e (Err (F.Fault k)) = refl

look_same : (s : List ℕ) (c : Place) (f : Form) (b : List ℕ) (fs : List Flaw) (r : List ℕ) → check s c ≡ got (fields_in f b) fs r
    → (m : List ℕ) (n : ℕ) (l : Option Place) → look_from n s c m l ≡ look_by n s c f (c.end - length b) m (from (c.end - length b) l)
unfolding step
look_same s c f b fs r e m zero l = refl
look_same s c f b fs r e m (suc n) l =
    rw e (look_cong s m (λ p. look_from n s c m (Some p)) (λ p. look_by n s c f (c.end - length b) m p.end)
    (λ p. look_same s c f b fs r e m n (Some p)) (step_in s c f (c.end - length b) (from (c.end - length b) l)))

-- ---- lookup

abbrev looking : List ℕ → Place → List ℕ → Result Opened Stop → Result (Option Place) PlaceError
looking s c m (Err k) = Err (F.Fault k)
looking s c m (Ok O.Leaf) = Err F.WrongKind
looking s c m (Ok (O.Items f b)) = Err F.WrongKind
looking s c m (Ok (O.Fields f b)) = look_by (suc c.end) s c f b m b

module _ (s : List ℕ) (c : Place) (m : List ℕ) (x : Result Opened Stop) (i : x ≡ opened_by c.end (check s c)) where
  look_is : (y : Result Opened Stop) → x ≡ y → looking s c m y ≡ lookup s c m
  unfolding lookup
  look_is y z = ap (looking s c m) (sym z ∙ i) ∙ at (check s c) refl
    where
      at : (o : Out Head) → check s c ≡ o → looking s c m (opened_by c.end o) ≡ look_in s c m o
      at (fault k) e = refl
      at (got (value v) fs r) e = refl
      at (got (items_in f n b) fs r) e = refl
      at (got (fields_in f b) fs r) e = sym (look_same s c f b fs r e m (suc c.end) None)

  pub lookup_refused : (k : Stop) → x ≡ Err k → Err (F.Fault k) ≡ lookup s c m
  lookup_refused k z = look_is (Err k) z

  module _ (o : Opened) (z : x ≡ Ok o) where
    module _ (f : Form) (b : ℕ) (e : o ≡ O.Fields f b) where
      pub lookup_fields : (r : Result (Option Place) PlaceError) → r ≡ look_by (suc c.end) s c f b m b → r ≡ lookup s c m
      lookup_fields r h = h ∙ look_is (Ok (O.Fields f b)) (z ∙ ap Ok e)

      pub lookup_ready : (b ≤ c.end) × (c.end ≤ length s) × (length s ≤ length_limit) × Full f
      lookup_ready = let w = stands_fields s c x i f b (z ∙ ap Ok e) in (w.last, w.inside, w.short, w.full)

    pub lookup_none : ((f : Form) (b : ℕ) → o ≡ O.Fields f b → ⊥) → Err F.WrongKind ≡ lookup s c m
    lookup_none a = at o refl
      where
        at : (y : Opened) → o ≡ y → Err F.WrongKind ≡ lookup s c m
        at O.Leaf e = look_is (Ok O.Leaf) (z ∙ ap Ok e)
        at (O.Fields f b) e = absurd (a f b e)
        at (O.Items f b) e = look_is (Ok (O.Items f b)) (z ∙ ap Ok e)

pub ruleset lookup_laws = (lookup_refused, lookup_fields, lookup_ready, lookup_none)

-- ---- the loop: from `at` on, what is found is what is found from the beginning

module _ (s : List ℕ) (c : Place) (f : Form) (b : ℕ) (m : List ℕ) where
  pub record Looking (at : ℕ) : Type 0 where
    pub bound : ℕ
    pub enough : c.end < bound + at
    pub first : b ≤ at
    pub last : at ≤ c.end
    pub same : look_by bound s c f b m at ≡ look_by (suc c.end) s c f b m b

  pub look_start : b ≤ c.end → Looking b
  look_start h = record { bound = suc c.end; enough = omega arith; first = omega arith; last = h; same = refl }

  module _ (at : ℕ) (looks : Looking at) where
    -- one more step is left
    look_step : {X : Type 0} → ((n : ℕ) → c.end < suc n + at → look_by (suc n) s c f b m at ≡ look_by (suc c.end) s c f b m b → X) → X
    look_step {X} k = go looks.bound looks.enough looks.same
      where
        go : (n : ℕ) → c.end < n + at → look_by n s c f b m at ≡ look_by (suc c.end) s c f b m b → X
        go zero h e = absurd (omega (arith, looks.last))
        go (suc n) h e = k n h e

    module _ (x : Result (Option Field) PlaceError) (i : x ≡ step_in s c f b at) where
      -- what the step met is the answer, or the way on
      look_met : {X : Type 0} (y : Result (Option Field) PlaceError) → x ≡ y
          → ((n : ℕ) → c.end < suc n + at → look_at s m (λ p. look_by n s c f b m p.end) y ≡ look_by (suc c.end) s c f b m b → X) → X
      look_met y z k = look_step λ n h e. k n h (ap (look_at s m (λ p. look_by n s c f b m p.end)) (sym z ∙ i) ∙ e)

      pub look_fault : (k : PlaceError) → x ≡ Err k → Err k ≡ look_by (suc c.end) s c f b m b
      look_fault F.WrongKind z = look_met (Err F.WrongKind) z λ n _ e. e
      look_fault (F.Fault k) z = look_met (Err (F.Fault k)) z λ n _ e. e

      module _ (y : Option Field) (z : x ≡ Ok y) where
        pub look_none : y ≡ None → Ok None ≡ look_by (suc c.end) s c f b m b
        look_none e = look_met (Ok None) (z ∙ ap Ok e) λ n _ e. e

        module _ (p : Field) (w : y ≡ Some p) where
          met : x ≡ Ok (Some p)
          met = z ∙ ap Ok w

          pub met_along : c.end ≤ length s → Along f (c.depth + 1) at c.end p.place p.name
          met_along l = step_along s c f b at l x i p.place p.name met

          module _ (t : Bool) (j : t ≡ equal (between p.name p.place.start s) m) where
            equal_is : (u : Bool) → t ≡ u → equal (slice p.name p.place.start s) m ≡ u
            equal_is u h = rw (slice_is p.name p.place.start s) (sym j ∙ h)

            pub look_found : t ≡ true → Ok (Some p.place) ≡ look_by (suc c.end) s c f b m b
            look_found h = look_met (Ok (Some p)) met λ k _ e. rw (equal_is true h, look_at) at e

            pub look_on : Full f → c.end ≤ length s → t ≡ false → Looking p.place.end
            look_on a l h = look_met (Ok (Some p)) met λ k g e.
                let v = met_along l in
                let o = v.onward a in
                let left = rw (equal_is false h, look_at) at e in
                record { bound = k; enough = omega (arith, o); first = omega (arith, o, looks.first); last = v.within; same = left }

pub ruleset look_laws = (look_start, look_fault, look_none, look_found, look_on)
