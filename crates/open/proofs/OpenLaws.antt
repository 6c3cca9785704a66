-- The check of a place: what the code knows at each return.
use Rattle.std.specs.Prelude.{Option, None, Some, Err, Result, Ok}
use Prim.Native.Nat.{ℕ, ◌+◌, ◌≤◌, ◌<◌}
use native.Mathlib.Omega.{arith}
use mathlib.Core.Path.{◌≡◌, refl, sym, ap, ◌∙◌, subst}
use mathlib.Core.List.{List, []}
use lib.ListN.{length}
use lib.Seq.{slice, length-slice}
use borrow.Author.Tests.{lt-ltb, le-ltb, eq-eqb, ne_eqb}
use Rattle.format.specs.declared.Kind.{Kind}
use Rattle.format.specs.declared.Form.{Form}
use Rattle.format.specs.declared.Stop.TheVariants.{Early, TooDeep, TooLong}
use Rattle.format.specs.declared.Stop.TheVariants as S
use Rattle.places.specs.declared.Place.{Place}
use Rattle.format.specs.Limits.{depth_limit, length_limit}
use Rattle.format.specs.Kinds.{known}
use Rattle.format.specs.declared.Flaw.{Flaw}
use Rattle.format.specs.declared.Stop.{Stop}
use Rattle.format.specs.Parse.{Out, fault, got, whole}
use Rattle.format.specs.Payload.{Head, value, fields_in, items_in, head}
use Rattle.places.specs.Places.{check, checked_of, checked}
use Rattle.front.specs.Between.{between}
use Rattle.format.proofs.Lists.{drop_take}
use Rattle.places.proofs.PassedPlaces.{check_within, check_passed}
use Rattle.places.proofs.StepFields.{Opens, opens_fields, opens_items}
use Rattle.open.specs.Opening.{opened_by}
use Rattle.open.specs.declared.Opened.TheVariants as O
use Rattle.open.specs.declared.Opened.{Opened}
use Rattle.number.proofs.Clash.{clash}

-- ---- the check, in its order

pub slice_is : (a e : ℕ) (s : List ℕ) → slice a e s ≡ between a e s
slice_is a e s = drop_take a e s

module _ (s : List ℕ) (p : Place) where
  pub place_long : length_limit < length s → Err TooLong ≡ opened_by p.end (check s p)
  unfolding check
  place_long h = rw (lt-ltb length_limit (length s) h)

  module _ (short : length s ≤ length_limit) where
    pub place_crossed : p.end < p.start → Err Early ≡ opened_by p.end (check s p)
    unfolding check
    place_crossed h = rw (le-ltb length_limit (length s) short, lt-ltb p.end p.start h)

    module _ (order : p.start ≤ p.end) where
      pub place_outside : length s < p.end → Err Early ≡ opened_by p.end (check s p)
      unfolding check
      place_outside h = rw (le-ltb length_limit (length s) short, le-ltb p.end p.start order, lt-ltb (length s) p.end h)

      module _ (inside : p.end ≤ length s) where
        pub place_shallow : p.depth ≡ 0 → Err TooDeep ≡ opened_by p.end (check s p)
        unfolding check
        place_shallow h = rw (le-ltb length_limit (length s) short, le-ltb p.end p.start order, le-ltb (length s) p.end inside, eq-eqb p.depth 0 h)

        module _ (some : p.depth ≡ 0 → ⊥) where
          pub place_deep : depth_limit < p.depth → Err TooDeep ≡ opened_by p.end (check s p)
          unfolding check
          place_deep h = rw (
            le-ltb length_limit (length s) short,
            le-ltb p.end p.start order,
            le-ltb (length s) p.end inside,
            ne_eqb p.depth 0 some,
            lt-ltb depth_limit p.depth h,
          )

          module _ (within : p.depth ≤ depth_limit) (x : Option Kind) (i : x ≡ known p.kind) where
            pub place_unknown : x ≡ None → Err S.Unknown ≡ opened_by p.end (check s p)
            place_unknown h = rw (check_within s p short order inside some within, ← i, h)

            pub place_known : (k : Kind) → x ≡ Some k → (t : List ℕ) (o : Result Opened Stop)
                → o ≡ opened_by (p.start + length t) (whole (head k t) []) → t ≡ between p.start p.end s
                → o ≡ opened_by p.end (check s p)
            place_known k h t o z y =
                let l : p.start + length (slice p.start p.end s) ≡ p.end = omega (arith, length-slice p.start p.end s inside) in
                rw (check_within s p short order inside some within, ← i, h) (rw (y, ← slice_is p.start p.end s, l) at z)

pub ruleset place_laws = (place_long, place_crossed, place_outside, place_shallow, place_deep, place_unknown, place_known)

-- ---- a place that passed

pub record Sound (s : List ℕ) (p : Place) : Type 0 where
  pub short : length s ≤ length_limit
  pub order : p.start ≤ p.end
  pub inside : p.end ≤ length s

sound : (s : List ℕ) (p : Place) {h : Head} {fs : List Flaw} {r : List ℕ} → check s p ≡ got h fs r → Sound s p
sound s p e = let i = check_passed s p e in record { short = i.short; order = i.order; inside = i.inside }

-- what is known of it, by how it opened
abbrev Stands : List ℕ → Place → Result Opened Stop → Type 0
Stands s p (Err k) = Unit {0}
Stands s p (Ok O.Leaf) = Sound s p
Stands s p (Ok (O.Fields f b)) = Opens s p f b
Stands s p (Ok (O.Items f b)) = Opens s p f b

module _ (s : List ℕ) (p : Place) (x : Result Opened Stop) (i : x ≡ opened_by p.end (check s p)) where
  stands : (y : Result Opened Stop) → x ≡ y → Stands s p y
  stands y z = subst (Stands s p) (sym i ∙ z) (at (check s p) refl)
    where
      at : (o : Out Head) → check s p ≡ o → Stands s p (opened_by p.end o)
      at (fault k) e = tt
      at (got (value v) fs r) e = sound s p e
      at (got (fields_in f b) fs r) e = opens_fields s p f b e
      at (got (items_in f n b) fs r) e = opens_items s p f n b e

  pub stands_leaf : x ≡ Ok O.Leaf → Sound s p
  stands_leaf z = stands (Ok O.Leaf) z

  pub stands_fields : (f : Form) (b : ℕ) → x ≡ Ok (O.Fields f b) → Opens s p f b
  stands_fields f b z = stands (Ok (O.Fields f b)) z

  pub stands_items : (f : Form) (b : ℕ) → x ≡ Ok (O.Items f b) → Opens s p f b
  stands_items f b z = stands (Ok (O.Items f b)) z

-- ---- the check as a call of its own

abbrev checked_by : Result Opened Stop → Result (Unit {0}) Stop
checked_by (Err k) = Err k
checked_by (Ok O.Leaf) = Ok tt
checked_by (Ok (O.Fields f b)) = Ok tt
checked_by (Ok (O.Items f b)) = Ok tt

checked_same : (e : ℕ) (o : Out Head) → checked_by (opened_by e o) ≡ checked_of o
checked_same e (fault k) = refl
checked_same e (got (value v) fs r) = refl
checked_same e (got (fields_in f b) fs r) = refl
checked_same e (got (items_in f n b) fs r) = refl

module _ (s : List ℕ) (p : Place) (x : Result Opened Stop) (i : x ≡ opened_by p.end (check s p)) where
  checked_is : (y : Result Opened Stop) → x ≡ y → checked_by y ≡ checked s p
  unfolding checked
  checked_is y z = ap checked_by (sym z ∙ i) ∙ checked_same p.end (check s p)

  pub checked_stop : (k : Stop) → x ≡ Err k → Err k ≡ checked s p
  checked_stop k z = checked_is (Err k) z

  pub checked_good : (o : Opened) → x ≡ Ok o → Ok tt ≡ checked s p
  checked_good O.Leaf z = checked_is (Ok O.Leaf) z
  checked_good (O.Fields f b) z = checked_is (Ok (O.Fields f b)) z
  checked_good (O.Items f b) z = checked_is (Ok (O.Items f b)) z

pub ruleset checked_laws = (checked_stop, checked_good)

pub sound_good : (s : List ℕ) (p : Place) (x : Result (Unit {0}) Stop) → x ≡ checked s p → x ≡ Ok tt → Sound s p
unfolding checked
sound_good s p x i z = at (check s p) refl (sym i ∙ z)
  where
    at : (o : Out Head) → check s p ≡ o → checked_of o ≡ Ok tt → Sound s p
    at (fault k) e h = clash (cc)
    at (got u fs r) e h = sound s p e
