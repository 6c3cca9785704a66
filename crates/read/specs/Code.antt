-- What the code answers inside, of the definitions of steps and lookup. Nothing here has to be believed: no public contract names it.
use Rattle.std.specs.Prelude.{ℕ, zero, suc, ◌+◌, List, length, Result, Option, Ok, None}
use Rattle.format.specs.declared.Form.{Form}
use Rattle.format.specs.declared.Stop.{Stop}
use Rattle.places.specs.declared.Place.{Place}
use Rattle.places.specs.declared.Field.{Field}
use Rattle.places.specs.declared.PlaceError.{PlaceError}
use Rattle.places.specs.Places.{met, step_in, look_at}
use Rattle.places.specs.Placed.{field_in}

-- ---- a field that is met

unfoldable pub field_at : ℕ → ℕ → Form → List ℕ → Result Field Stop
field_at d at f s = field_in (met d (at + length s) f s)

-- ---- lookup, in contents from `begin` on that were checked once

abbrev pub look_by : ℕ → List ℕ → Place → Form → ℕ → List ℕ → ℕ → Result (Option Place) PlaceError
look_by zero s c f begin m at = Ok None
look_by (suc n) s c f begin m at = look_at s m (λ p. look_by n s c f begin m p.end) (step_in s c f begin at)
