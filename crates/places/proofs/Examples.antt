-- The payloads that document 01 marks with a star ("Payloads beside their masks"), shown of the definitions.
use Rattle.std.specs.Prelude.{Option, None, Some, Result, Ok, Err, ℤ}
use Prim.Native.Nat.{ℕ, ◌+◌}
use mathlib.Core.Path.{◌≡◌, refl}
use mathlib.Core.List.{List, [], ◌∷◌, map}
use lib.IntN.{negsuc}
use Rattle.number.specs.VarUInt.{var_uint}
use Rattle.text.specs.Utf8.{is_text, due}
use Rattle.text.specs.Equal.{equal}
use Rattle.places.specs.declared.Place.{Place}
use Rattle.format.specs.Kinds.{known, is_bare, is_uniform, is_uniform_array}
use Rattle.format.specs.Parse.{read_var_uint, fixed}
use Rattle.format.specs.Names.{is_empty, twins}
use Rattle.format.specs.Payload.{front, head, payload}
use Rattle.format.specs.Reader.{read}
use Rattle.format.specs.Mask.{mask, names_mode, format_mode, strict}
use Rattle.places.specs.Places.{top, meet, check}
use Rattle.places.specs.Values.{signed}
use Rattle.places.specs.declared.ValueError.TheVariants as I
use Rattle.places.specs.declared.ValueError.{ValueError}
use Rattle.format.specs.declared.Stop.{Stop}

-- the modes, the payload, its mask, and its value read as signed where 01 gives one
pub record Example : Type 0 where
  pub modes : ℕ
  pub bytes : List ℕ
  pub mask : ℕ
  pub value : Option (Result ℤ ValueError)

abbrev with_mask : ℕ → List ℕ → ℕ → Example
with_mask m s n = record { modes = m; bytes = s; mask = n; value = None }

abbrev pub examples : List Example
examples =
    with_mask strict [] 1
    ∷ with_mask strict (0x15 ∷ []) 2
    ∷ with_mask strict (0x42 ∷ 0x00 ∷ []) 2
    ∷ with_mask strict (0x02 ∷ 0x00 ∷ []) 0
    ∷ with_mask strict (0x04 ∷ 0x01 ∷ 0x00 ∷ []) 0
    ∷ record { modes = strict; bytes = 0x09 ∷ 0x29 ∷ []; mask = 0; value = Some (Ok (negsuc 41)) }
    ∷ with_mask strict (0x05 ∷ 0x05 ∷ 0x03 ∷ 0x08 ∷ 0x01 ∷ 0x02 ∷ 0x03 ∷ []) 0
    ∷ with_mask strict
    (0x02 ∷ 0x12 ∷ 0xc7 ∷ 0x04 ∷ 0x6e ∷ 0x61 ∷ 0x6d ∷ 0x65 ∷ 0x05 ∷ 0x41 ∷ 0x6c ∷ 0x69 ∷ 0x63 ∷ 0x65 ∷ 0xc8 ∷ 0x03 ∷ 0x61 ∷ 0x67 ∷ 0x65 ∷ 0x1e ∷ []) 0
    ∷ with_mask strict (0x04 ∷ 0x03 ∷ 0x02 ∷ 0x4c ∷ 0x4c ∷ []) 0
    ∷ with_mask strict (0x05 ∷ 0x02 ∷ 0x02 ∷ 0x0c ∷ []) 2048
    ∷ with_mask strict (0x08 ∷ 0x80 ∷ 0x05 ∷ []) 64
    ∷ with_mask strict (0x08 ∷ 0x05 ∷ 0x00 ∷ []) 4096
    ∷ with_mask (names_mode + format_mode) (0x08 ∷ 0x05 ∷ 0x00 ∷ []) 0
    ∷ with_mask strict (0x02 ∷ 0x07 ∷ 0xc1 ∷ 0x00 ∷ 0xc8 ∷ 0x01 ∷ 0x61 ∷ 0x80 ∷ 0x05 ∷ []) 96
    ∷ []

-- what the definitions say of the same modes and payload
abbrev signed_at : List ℕ → Result Place Stop → Result ℤ ValueError
signed_at s (Ok p) = signed s p
signed_at s (Err k) = Err (I.Fault k)

abbrev value_of : List ℕ → Option (Result ℤ ValueError) → Option (Result ℤ ValueError)
value_of s None = None
value_of s (Some v) = Some (signed_at s (top s))

abbrev computed : Example → Example
computed x = record { modes = x.modes; bytes = x.bytes; mask = mask x.modes x.bytes; value = value_of x.bytes x.value }

pub examples_hold : map computed examples ≡ examples
unfolding var_uint is_text due equal known is_bare is_uniform is_uniform_array read_var_uint fixed is_empty twins front head payload read mask top meet check signed
examples_hold = refl
