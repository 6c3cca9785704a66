-- What the definitions come to on small parts, computed: fields that share the kind Null, so that a field is its name; and frames of that kind.
use Prim.Native.Nat.{ℕ}
use mathlib.Core.Path.{◌≡◌, refl}
use mathlib.Core.Bool.{true, false}
use mathlib.Core.List.{List, [], ◌∷◌, map}
use Rattle.std.proofs.Common.{None, Some}
use Rattle.format.specs.declared.Kind.TheVariants.{Null}
use Rattle.format.specs.declared.Form.TheVariants.{SharedField}
use Rattle.number.specs.VarUInt.{var_uint}
use Rattle.text.specs.Equal.{equal}
use Rattle.text.specs.Utf8.{is_text, due}
use Rattle.format.specs.Kinds.{known}
use Rattle.format.specs.Parse.{read_var_uint, fixed}
use Rattle.format.specs.Names.{is_empty}
use Rattle.format.specs.Payload.{payload, front, head}
use Rattle.names.specs.FieldNames.{name_at}
use Rattle.frames.specs.FramePieces.{writable}
use Rattle.passing.specs.Pass.{pass_over}
use Rattle.passing.specs.FrameNames as frames
use Rattle.entries.specs.Entry.{bytes_at, half_at, mark_of, entry_of}
use Rattle.compare.specs.Order.{order}
use Rattle.entries.specs.Least.{is_first, is_twin, least_of}
use Rattle.select.specs.declared.Source.TheVariants.{Fields, Frames}
use Rattle.select.specs.Source.{entries_from, first_twin, searched}
use Rattle.select.specs.Range.{above, up_to, wanted}

-- "a", "b", "a", "b"
abbrev part : List ℕ
part = 1 ∷ 97 ∷ 1 ∷ 98 ∷ 1 ∷ 97 ∷ 1 ∷ 98 ∷ []

pub fields_pinned : map (first_twin (Fields (SharedField Null))) (part ∷ (1 ∷ 97 ∷ 1 ∷ 98 ∷ []) ∷ (0 ∷ 0 ∷ []) ∷ [] ∷ []) ≡ 5 ∷ 16777216 ∷ 2 ∷ 16777216 ∷ []
unfolding var_uint is_text due read_var_uint is_empty payload front head name_at equal is_first is_twin least_of bytes_at half_at mark_of entry_of entries_from first_twin
fields_pinned = refl

-- "a", "b", "a"; an object "a" with "a" in it, then "b"; the same, then "a" that is cut behind its name
pub frames_pinned : map (first_twin (Frames 2 7))
    ((1 ∷ 1 ∷ 97 ∷ 1 ∷ 1 ∷ 98 ∷ 1 ∷ 1 ∷ 97 ∷ []) ∷ (2 ∷ 1 ∷ 97 ∷ 1 ∷ 1 ∷ 97 ∷ 0 ∷ 1 ∷ 1 ∷ 98 ∷ []) ∷ (2 ∷ 1 ∷ 97 ∷ 1 ∷ 1 ∷ 97 ∷ 0 ∷ 7 ∷ 1 ∷ 97 ∷ []) ∷ [])
    ≡ 8 ∷ 16777216 ∷ 9 ∷ []
unfolding var_uint is_text due known read_var_uint fixed is_empty payload writable pass_over frames.name_of frames.name_at equal is_first is_twin least_of bytes_at
    half_at mark_of entry_of entries_from first_twin
frames_pinned = refl

-- of "a", "b", "a" those that begin up to 6, 5 and 3
pub last_pinned : map (λ p. first_twin (Frames 2 p) (1 ∷ 1 ∷ 97 ∷ 1 ∷ 1 ∷ 98 ∷ 1 ∷ 1 ∷ 97 ∷ [])) (6 ∷ 5 ∷ 3 ∷ []) ≡ 8 ∷ 16777216 ∷ 16777216 ∷ []
unfolding var_uint is_text due known read_var_uint fixed is_empty payload writable pass_over frames.name_of frames.name_at equal is_first is_twin least_of bytes_at
    half_at mark_of entry_of entries_from first_twin
last_pinned = refl

-- of four names: in a table that holds fewer, and in one that holds more
pub searched_pinned : searched (Fields (SharedField Null)) part (7 ∷ 8 ∷ []) ∷ searched (Fields (SharedField Null)) part (7 ∷ 8 ∷ 9 ∷ 10 ∷ 11 ∷ 12 ∷ []) ∷ []
    ≡ record { answer = 5; table = 0 ∷ 0 ∷ [] } ∷ record { answer = 5; table = 0 ∷ 0 ∷ 0 ∷ 0 ∷ 11 ∷ 12 ∷ [] } ∷ []
unfolding var_uint is_text due read_var_uint is_empty payload front head name_at equal is_first is_twin least_of bytes_at half_at mark_of entry_of entries_from first_twin
    searched
searched_pinned = refl

-- the second name above and up to no bound, the first, itself; then wanted above the first and up to itself, before 4, 3 and 2
abbrev b : ℕ
b = entry_of part 3 4

abbrev a : ℕ
a = entry_of part 1 2

pub range_pinned : map (λ l. above part l b) (None ∷ Some a ∷ Some b ∷ []) ≡ true ∷ true ∷ false ∷ []
unfolding order bytes_at half_at mark_of entry_of
range_pinned = refl

pub up_pinned : map (λ l. up_to part l b) (None ∷ Some a ∷ Some b ∷ []) ≡ true ∷ false ∷ true ∷ []
unfolding order bytes_at half_at mark_of entry_of
up_pinned = refl

pub wanted_pinned : map (λ n. wanted part (Some a) (Some b) n b) (4 ∷ 3 ∷ 2 ∷ []) ≡ true ∷ false ∷ false ∷ []
unfolding order bytes_at half_at mark_of entry_of wanted
wanted_pinned = refl
