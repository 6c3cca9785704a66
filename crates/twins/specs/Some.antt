-- Whether there is a twin, and the names of events.
use Rattle.std.specs.Prelude.{ℕ, Bool, true, false, List, map}
use Rattle.std.proofs.Math.Option.{Option, none, some}
use Rattle.twins.specs.Events.{Event}

abbrev pub is_some : Option (List ℕ) → Bool
is_some none = false
is_some (some f) = true

abbrev pub names_of : List Event → List (List ℕ)
names_of es = map (λ e. e.name) es
