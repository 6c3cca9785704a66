-- The top place: what the code knows at each return, from what was met.
use Rattle.std.specs.Prelude.{Result, Ok, Err}
use Prim.Native.Nat.{ℕ, ◌≤◌, ◌<◌}
use mathlib.Core.Path.{◌≡◌, refl, sym, ap, ◌∙◌}
use mathlib.Core.List.{List}
use lib.ListN.{length}
use borrow.Author.Tests.{lt-ltb, le-ltb}
use Rattle.format.specs.declared.Form.TheVariants as Fo
use Rattle.format.specs.declared.Stop.TheVariants.{TooLong}
use Rattle.format.specs.declared.Stop.{Stop}
use Rattle.faults.specs.declared.Modes.{Modes}
use Rattle.faults.specs.declared.Faults.{Faults}
use Rattle.places.specs.declared.Place.{Place}
use Rattle.places.specs.declared.Field.{Field}
use Rattle.format.specs.Limits.{length_limit}
use Rattle.format.specs.Parse.{Out, fault, got}
use Rattle.head.specs.Code.{meet_at}
use Rattle.places.specs.Places.{met, meet, top_of, top}
use Rattle.places.specs.Placed.{placed, field_in}
use Rattle.places.proofs.PlacedLaws.{placed_met}
use Rattle.head.specs.declared.Met.{Met}

pub top_long : (s : List ℕ) → length_limit < length s → Err TooLong ≡ top s
unfolding top
top_long s i = rw (lt-ltb length_limit (length s) i)

-- by the field that was met
abbrev top_by : Result Field Stop → Result Place Stop
top_by (Err k) = Err k
top_by (Ok x) = Ok x.place

by_met : (o : Out (List ℕ × Place)) → top_by (field_in o) ≡ top_of o
by_met (fault k) = refl
by_met (got x fs r) = refl

module _ (m : Modes) (g : Faults) (s : List ℕ) (short : length s ≤ length_limit) (w : Result Met Stop) (j : w ≡ meet_at Fo.Top m g s) where
  module _ (x : Result Field Stop) (i : x ≡ placed 1 w) where
    top_is : (y : Result Field Stop) → x ≡ y → top_by y ≡ top s
    unfolding top meet
    top_is y z =
        rw (le-ltb length_limit (length s) short)
        (ap top_by (sym z ∙ i ∙ ap (placed 1) j ∙ placed_met 1 Fo.Top m g s) ∙ by_met (met 1 (length s) Fo.Top s))

    pub top_stop : (k : Stop) → x ≡ Err k → Err k ≡ top s
    top_stop k z = top_is (Err k) z

    pub top_at : (p : Field) → x ≡ Ok p → Ok p.place ≡ top s
    top_at p z = top_is (Ok p) z

pub ruleset top_laws = (top_long, top_stop, top_at)
