-- The walk of the 20 bytes that document 01 prints, computed from the definitions.
use Rattle.std.specs.Prelude.{Result, Ok, Err, None}
use mathlib.Core.Path.{◌≡◌, refl}
use mathlib.Core.List.{List, [], ◌∷◌}
use Prim.Native.Nat.{ℕ}
use Rattle.number.specs.VarUInt.{var_uint}
use Rattle.text.specs.Utf8.{is_text, due}
use Rattle.places.specs.declared.Place.{Place}
use Rattle.format.specs.Kinds.{known, is_bare}
use Rattle.format.specs.Limits.{depth_limit}
use Rattle.format.specs.Parse.{read_var_uint, fixed}
use Rattle.format.specs.Names.{is_empty}
use Rattle.format.specs.Payload.{front, head, payload}
use Rattle.places.specs.Places.{check, meet, top, step}
use Rattle.places.specs.Stepping.{Event, met, ended, stepping}
use Rattle.format.specs.declared.Stop.{Stop}
use Rattle.places.specs.declared.PlaceError.TheVariants.{WrongKind}

abbrev stepping_from : List ℕ → Result Place Stop → List Event
stepping_from s (Ok p) = stepping depth_limit s p
stepping_from s (Err k) = []

abbrev alice : List ℕ
alice = 0x02 ∷ 0x12 ∷ 0xc7 ∷ 0x04 ∷ 0x6e ∷ 0x61 ∷ 0x6d ∷ 0x65 ∷ 0x05 ∷ 0x41 ∷ 0x6c ∷ 0x69 ∷ 0x63 ∷ 0x65 ∷ 0xc8 ∷ 0x03 ∷ 0x61 ∷ 0x67 ∷ 0x65 ∷ 0x1e ∷ []

-- an object with a String "name" and an Integer "age"
pub alice_walked : stepping_from alice (top alice) ≡ met (0x6e ∷ 0x61 ∷ 0x6d ∷ 0x65 ∷ []) 0x07 2 ∷ ended (Err WrongKind) ∷ met (0x61 ∷ 0x67 ∷ 0x65 ∷ []) 0x08 2
    ∷ ended (Err WrongKind) ∷ ended (Ok None) ∷ []
unfolding var_uint is_text due known is_bare read_var_uint fixed is_empty front head payload check meet top step
alice_walked = refl
