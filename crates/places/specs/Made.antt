-- What was met or found, as an answer: a field with the start of its name; and where a view stands.
use Rattle.std.specs.Prelude.{ℕ, Option, Some, Result, Ok}
use Rattle.format.specs.declared.Stop.{Stop}
use Rattle.places.specs.declared.Place.{Place}
use Rattle.places.specs.declared.Field.{Field}
use Rattle.places.specs.declared.Part.{Part}
use Rattle.places.specs.declared.PlaceError.{PlaceError}

abbrev pub field_met : Place → ℕ → Result Field Stop
field_met p n = Ok (record { place = p; name = n })

abbrev pub step_met : Place → ℕ → Result (Option Field) PlaceError
step_met p n = Ok (Some (record { place = p; name = n }))

abbrev pub part_at : ℕ → ℕ → Result Part Stop
part_at a e = Ok (record { begin = a; end = e })
