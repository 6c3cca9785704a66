-- The places in the 20 bytes that document 01 prints, and a container's view, computed from the definitions.
use mathlib.Core.Path.{◌≡◌, refl}
use mathlib.Core.List.{List, [], ◌∷◌}
use Prim.Native.Nat.{ℕ}
use Rattle.number.specs.VarUInt.{var_uint}
use Rattle.text.specs.Utf8.{is_text, due}
use Rattle.places.specs.declared.Place.{Place}
use Rattle.format.specs.Kinds.{known, is_bare, has_size}
use Rattle.format.specs.Parse.{read_var_uint, fixed}
use Rattle.format.specs.Names.{is_empty}
use Rattle.format.specs.Payload.{front, head, payload}
use Rattle.places.specs.Places.{place_with, check, meet, step, part, view}
use Rattle.places.specs.Contents.{contents_start}
use Rattle.places.specs.Stepping.{ranges}
use Rattle.places.specs.Siblings.{places_in}
use Rattle.places.specs.Made.{part_at}

abbrev alice : List ℕ
alice = 0x02 ∷ 0x12 ∷ 0xc7 ∷ 0x04 ∷ 0x6e ∷ 0x61 ∷ 0x6d ∷ 0x65 ∷ 0x05 ∷ 0x41 ∷ 0x6c ∷ 0x69 ∷ 0x63 ∷ 0x65 ∷ 0xc8 ∷ 0x03 ∷ 0x61 ∷ 0x67 ∷ 0x65 ∷ 0x1e ∷ []

abbrev alice_top : Place
alice_top = place_with 0x02 1 20 1

pub alice_places : places_in alice alice_top ≡ place_with 0x07 8 14 2 ∷ place_with 0x08 19 20 2 ∷ []
unfolding var_uint is_text due known is_bare read_var_uint fixed is_empty front head payload check meet step places_in
alice_places = refl

pub alice_ranges : ranges (contents_start alice alice_top) (places_in alice alice_top) ≡ (2, 14) ∷ (14, 20) ∷ []
unfolding var_uint is_text due known is_bare read_var_uint fixed is_empty front head payload check meet step places_in contents_start
alice_ranges = refl

-- a uniform array of three integers: its view has the count and the shared byte
abbrev numbers : List ℕ
numbers = 0x05 ∷ 0x05 ∷ 0x03 ∷ 0x08 ∷ 0x01 ∷ 0x02 ∷ 0x03 ∷ []

abbrev numbers_top : Place
numbers_top = place_with 0x05 1 7 1

pub numbers_part : part numbers numbers_top ≡ part_at 2 7
unfolding var_uint known is_bare has_size read_var_uint head payload check part
numbers_part = refl

pub numbers_view : view numbers numbers_top ≡ 0x03 ∷ 0x08 ∷ 0x01 ∷ 0x02 ∷ 0x03 ∷ []
unfolding var_uint known is_bare has_size read_var_uint head payload check part view
numbers_view = refl
