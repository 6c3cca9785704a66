-- Equal names with a table of some of the frames: the later ones are looked up in it.
use Rattle.std.specs.Prelude.{ℕ, cond, List, [], ◌∷◌}
use Rattle.std.proofs.Math.Option.{Option, none, some}
use Rattle.format.specs.Kinds.{any}
use Rattle.twins.specs.Events.{Event, is_of}

-- the first whose name is in the table; it grows no more
unfoldable pub first_met : List Event → List Event → Option (List ℕ)
first_met table [] = none
first_met table (e ∷ es) = cond (any (is_of e.object e.name) table) (some e.from) (first_met table es)
