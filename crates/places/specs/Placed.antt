-- The place of what was met, for the top place and for steps; and the same of what the definitions meet.
use Rattle.std.specs.Prelude.{ℕ, ◌-◌, List, length, Result, Ok, Err}
use Rattle.format.specs.declared.Kind.{Kind}
use Rattle.format.specs.declared.Stop.{Stop}
use Rattle.format.specs.Kinds.{id}
use Rattle.format.specs.Parse.{Out, fault, got}
use Rattle.places.specs.declared.Place.{Place}
use Rattle.places.specs.declared.Field.{Field}
use Rattle.places.specs.Places.{place_with}
use Rattle.places.specs.Made.{field_met}
use Rattle.head.specs.declared.Met.TheVariants as M
use Rattle.head.specs.declared.Met.{Met}

-- of kind k, with its name from n on
abbrev pub placed_by : Kind → ℕ → ℕ → ℕ → ℕ → Field
placed_by k n a e d = record { place = place_with (id k) a e d; name = n }

abbrev pub placed : ℕ → Result Met Stop → Result Field Stop
placed d (Err k) = Err k
placed d (Ok (M.Leaf k n a e g)) = Ok (placed_by k n a e d)
placed d (Ok (M.Fields k n a f b e g)) = Ok (placed_by k n a e d)
placed d (Ok (M.Items k n a f c b e g)) = Ok (placed_by k n a e d)

abbrev pub field_in : Out (List ℕ × Place) → Result Field Stop
field_in (fault k) = Err k
field_in (got x fs r) = field_met x.1 (x.1.start - length x.0)
