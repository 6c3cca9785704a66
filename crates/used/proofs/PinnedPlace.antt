-- What the definition comes to on small parts, computed.
use Prim.Native.Nat.{ℕ}
use mathlib.Core.Path.{◌≡◌, refl}
use mathlib.Core.List.{List, [], ◌∷◌, map}
use Rattle.number.specs.VarUInt.{var_uint}
use Rattle.text.specs.Utf8.{is_text, due}
use Rattle.format.specs.Kinds.{known}
use Rattle.format.specs.Parse.{read_var_uint, fixed}
use Rattle.format.specs.Names.{is_empty}
use Rattle.format.specs.Payload.{payload}
use Rattle.frames.specs.FramePieces.{writable}
use Rattle.passing.specs.Pass.{pass_over}
use Rattle.passing.specs.FrameNames.{name_of, name_at}
use Rattle.used.specs.Place.{place_from, frame_place}

-- "a"; an object "b" with "c" in it; "d"; and the close. Names begin at 2, 5, 8 and 12, and the second frame is not looked into
abbrev part : List ℕ
part = 1 ∷ 1 ∷ 97 ∷ 2 ∷ 1 ∷ 98 ∷ 1 ∷ 1 ∷ 99 ∷ 0 ∷ 1 ∷ 1 ∷ 100 ∷ 0 ∷ []

pub places_pinned : map (frame_place 2 part) (0 ∷ 2 ∷ 3 ∷ 5 ∷ 8 ∷ 12 ∷ 13 ∷ []) ≡ 0 ∷ 0 ∷ 3 ∷ 3 ∷ 10 ∷ 10 ∷ 13 ∷ []
unfolding var_uint is_text due known read_var_uint fixed is_empty payload writable pass_over name_of name_at place_from
places_pinned = refl

-- with no level left there is no frame
pub deep_pinned : frame_place 0 part 5 ≡ 0
unfolding name_of name_at place_from
deep_pinned = refl
