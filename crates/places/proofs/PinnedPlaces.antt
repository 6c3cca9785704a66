-- The order of a place's check, where steps begin and end, views and values (document 01, "Places, views and values"), by payloads and places, forged ones
-- too, whose answers are computed. The answers are 01's, and for the byte that fields share 02's (M-102). Exchanging two orders, two numbers or two ends in
-- the definitions is refused here.
use Rattle.std.specs.Prelude.{Err, Ok, Option, Some, None}
use Prim.Native.Nat.{ℕ}
use mathlib.Core.Path.{◌≡◌, refl}
use mathlib.Core.List.{List, [], ◌∷◌, map}
use lib.ListN.{replicate}
use lib.IntN.{pos, negsuc}
use lib.Ieee.{of_bits, to_bits, of_int, nan_bits}
use Rattle.number.specs.BigEndian.{to_bytes}
use Rattle.number.specs.VarUInt.{var_uint}
use Rattle.text.specs.Utf8.{is_text, due}
use Rattle.text.specs.Equal.{equal}
use Rattle.float.specs.Width.{widen, of_integer}
use Rattle.format.specs.declared.Stop.TheVariants.{Early, Unknown, TooDeep, TooLong, BadUniform}
use Rattle.places.specs.declared.Place.{Place}
use Rattle.format.specs.Kinds.{known, is_bare, has_size}
use Rattle.format.specs.Parse.{read_var_uint, fixed}
use Rattle.format.specs.Names.{is_empty}
use Rattle.format.specs.Payload.{front, head, payload}
use Rattle.places.specs.Places.{place_with, check, checked, meet, top, step, part, lookup}
use Rattle.places.specs.Values.{double, signed, unsigned, ticks}
use Rattle.places.specs.Made.{part_at, step_met}
use Rattle.places.specs.declared.PlaceError.TheVariants as P
use Rattle.places.specs.declared.ValueError.TheVariants as V

-- a payload of n bytes, as one number
abbrev of : ℕ → ℕ → List ℕ
of n v = to_bytes n v

-- kind, start, end and depth
abbrev at : ℕ → ℕ → ℕ → ℕ → Place
at k a e d = place_with k a e d

-- of the last place only the end counts
abbrev last : ℕ → Option Place
last e = Some (at 0 9 e 99)

abbrev long : List ℕ
long = 0x01 ∷ replicate 65536 0

-- ---- the check of a place: 8; 1; 4; 2; then what stands before the contents; then 1 where the payload does not end there
pub checks_pinned : map (λ (x : List ℕ × Place). checked x.0 x.1)
    ((long, at 0x15 5 3 0) ∷ (of 2 0x0805, at 0x15 2 1 0) ∷ (of 2 0x0805, at 0x15 1 3 0) ∷ (of 2 0x0805, at 0x15 1 2 0) ∷ (of 2 0x0805, at 0x15 1 2 33)
    ∷ (of 2 0x0805, at 0x15 1 2 32) ∷ (of 2 0x0805, at 0x48 1 2 1) ∷ (of 2 0x0805, at 8 1 2 32) ∷ (of 2 0x0805, at 8 1 1 1) ∷ (of 3 0x080505, at 8 1 3 1)
    ∷ (of 4 0x03010800, at 3 1 4 1) ∷ (of 4 0x03018800, at 3 1 4 1) ∷ (of 4 0x03020801, at 3 1 3 1) ∷ (of 4 0x04030155, at 4 1 4 1) ∷ [])
    ≡ Err TooLong ∷ Err Early ∷ Err Early ∷ Err TooDeep ∷ Err TooDeep
    ∷ Err Unknown ∷ Err Unknown ∷ Ok tt ∷ Err Early ∷ Err Early
    ∷ Err Unknown ∷ Err BadUniform ∷ Err Early ∷ Err Early ∷ []
unfolding var_uint is_text due known is_bare read_var_uint fixed head payload check checked
checks_pinned = refl

-- ---- the top place: at byte 0, a bare ID, depth 1; contents and bytes after it do not matter
pub tops_pinned : map top (long ∷ [] ∷ of 1 0x15 ∷ of 1 0xc1 ∷ of 3 0x080505 ∷ of 4 0x04020155 ∷ of 3 0x030108 ∷ of 3 0x030188 ∷ [])
    ≡ Err TooLong ∷ Err Early ∷ Err Unknown ∷ Err Unknown ∷ Ok (at 8 1 2 1) ∷ Ok (at 4 1 4 1) ∷ Err Unknown ∷ Err BadUniform ∷ []
unfolding var_uint is_text due known is_bare read_var_uint fixed front head payload meet top
tops_pinned = refl

-- ---- steps. The object of 01's example; an array of two items with one counted; an empty array
abbrev alice : List ℕ
alice = of 20 0x0212c7046e616d6505416c696365c8036167651e

pub steps_pinned : map (λ (x : List ℕ × (Place × Option Place)). step x.0 x.1.0 x.1.1)
    ((alice, (at 2 1 20 1, None)) ∷ (alice, (at 2 1 20 1, last 14)) ∷ (alice, (at 2 1 20 1, last 20)) ∷ (alice, (at 2 1 20 1, last 1))
    ∷ (alice, (at 2 1 20 1, last 21))
    ∷ (alice, (at 2 1 20 1, last 15)) ∷ (alice, (at 2 1 20 32, None)) ∷ (alice, (at 2 1 20 32, last 20)) ∷ (alice, (at 7 8 14 2, last 99))
    ∷ (of 5 0x0403014141, (at 4 1 5 1, last 4)) ∷ (of 3 0x040100, (at 4 1 3 1, None)) ∷ (of 3 0x040100, (at 4 1 3 1, last 9))
    ∷ (of 4 0x02024105, (at 2 1 4 1, None))
    -- 01's nested case, as M-102 spells it, and with its inner shared byte as 01 had it; an item of 05
    ∷ (of 14 0x030c8305696e6e6572048801780a, (at 3 1 14 1, None)) ∷ (of 14 0x030c8305696e6e6572048801780a, (at 3 9 14 2, None))
    ∷ (of 14 0x030c8305696e6e6572040801780a, (at 3 1 14 1, None)) ∷ (of 5 0x0503010805, (at 5 1 5 1, None)) ∷ [])
    ≡ step_met (at 7 8 14 2) 4 ∷ step_met (at 8 19 20 2) 16 ∷ Ok None ∷ Err (P.Fault Early) ∷ Err (P.Fault Early)
    ∷ Err (P.Fault Unknown) ∷ Err (P.Fault TooDeep) ∷ Ok None ∷ Err P.WrongKind
    ∷ step_met (at 1 5 5 2) 5 ∷ Ok None ∷ Err (P.Fault Early) ∷ Err (P.Fault Unknown)
    ∷ step_met (at 3 9 14 2) 4 ∷ step_met (at 8 13 14 3) 12 ∷ Err (P.Fault Unknown) ∷ step_met (at 8 4 5 2) 4 ∷ []
unfolding var_uint is_text due equal known is_bare read_var_uint fixed is_empty front head payload check meet step
steps_pinned = refl

-- ---- views: after the size, with count and shared byte, a custom's id; an integer's is its VarUInt, long or not
pub parts_pinned : map (λ (x : List ℕ × Place). part x.0 x.1)
    ((alice, at 7 8 14 2) ∷ (of 3 0x088005, at 8 1 3 1) ∷ (of 5 0x0503010805, at 5 1 5 1) ∷ (of 5 0x1e038005aa, at 0x1e 1 5 1) ∷ (of 1 0x01, at 1 1 1 1)
    ∷ (of 1 0x01, at 1 2 1 0) ∷ (of 5 0x0303810161, at 3 1 5 1) ∷ (of 5 0x0303010161, at 3 1 5 1) ∷ [])
    ≡ part_at 9 14 ∷ part_at 1 3 ∷ part_at 2 5 ∷ part_at 2 5 ∷ part_at 1 1 ∷ Err Early ∷ part_at 2 5 ∷ Err Unknown ∷ []
unfolding var_uint is_text due known is_bare has_size read_var_uint fixed head payload check part
parts_pinned = refl

-- ---- lookup: the first of the name, an empty one too; a fault on the way; not there; wrong kind
pub lookups_pinned : map (λ (x : List ℕ × (Place × List ℕ)). lookup x.0 x.1.0 x.1.1)
    ((alice, (at 2 1 20 1, of 3 0x616765)) ∷ (alice, (at 2 1 20 1, of 2 0x6167)) ∷ (of 7 0x03058101610161, (at 3 1 7 1, of 1 0x61))
    ∷ (of 5 0x03038d0161, (at 3 1 5 1, []))
    ∷ (of 4 0x03028d00, (at 3 1 4 1, [])) ∷ (of 6 0x0204c1016115, (at 2 1 6 1, of 1 0x62)) ∷ (of 6 0x0204c1016115, (at 2 1 6 1, of 1 0x61))
    ∷ (of 4 0x04020141, (at 4 1 4 1, [])) ∷ (of 14 0x030c8305696e6e6572040801780a, (at 3 1 14 1, [])) ∷ [])
    ≡ Ok (Some (at 8 19 20 2)) ∷ Ok None ∷ Ok (Some (at 1 5 5 2)) ∷ Ok None
    ∷ Ok (Some (at 0x0d 4 4 2)) ∷ Err (P.Fault Unknown) ∷ Ok (Some (at 1 5 5 2)) ∷ Err P.WrongKind ∷ Err (P.Fault Unknown) ∷ []
unfolding var_uint is_text due equal known is_bare read_var_uint fixed is_empty front head payload check meet step lookup
lookups_pinned = refl

-- ---- values: 05; M = 0 of 09; 2^63 of 08; M = 2^63 of 09; 2^53 and 2^53 + 1; a Float32 of 1 and its NaN; ticks of -1; a binary
abbrev numbers : List (List ℕ × Place)
numbers =
    (of 2 0x0805, at 8 1 2 1) ∷ (of 2 0x0900, at 9 1 2 1) ∷ (of 10 0x08ff8000000000000000, at 8 1 10 1) ∷ (of 10 0x09ff8000000000000000, at 9 1 10 1)
    ∷ (of 9 0x08fe20000000000000, at 8 1 9 1) ∷ (of 9 0x08fe20000000000001, at 8 1 9 1) ∷ (of 9 0x09fe1fffffffffffff, at 9 1 9 1)
    ∷ (of 5 0x0a3f800000, at 0x0a 1 5 1) ∷ (of 5 0x0affc00001, at 0x0a 1 5 1) ∷ (of 9 0x12ffffffffffffffff, at 0x12 1 9 1) ∷ (of 2 0x0600, at 6 1 2 1) ∷ []

pub signed_pinned : map (λ (x : List ℕ × Place). signed x.0 x.1) numbers
    ≡ Ok (pos 5) ∷ Ok (negsuc 0) ∷ Err V.OutOfRange ∷ Err V.OutOfRange ∷ Ok (pos 0x20000000000000) ∷ Ok (pos 0x20000000000001) ∷ Ok (negsuc 0x1fffffffffffff)
    ∷ Err V.WrongKind ∷ Err V.WrongKind ∷ Err V.WrongKind ∷ Err V.WrongKind ∷ []
unfolding var_uint is_text due known is_bare read_var_uint fixed head payload check signed nan_bits
signed_pinned = refl

pub unsigned_pinned : map (λ (x : List ℕ × Place). unsigned x.0 x.1) numbers
    ≡ Ok 5 ∷ Err V.OutOfRange ∷ Ok 0x8000000000000000 ∷ Err V.OutOfRange ∷ Ok 0x20000000000000 ∷ Ok 0x20000000000001 ∷ Err V.OutOfRange
    ∷ Err V.WrongKind ∷ Err V.WrongKind ∷ Err V.WrongKind ∷ Err V.WrongKind ∷ []
unfolding var_uint is_text due known is_bare read_var_uint fixed head payload check unsigned nan_bits
unsigned_pinned = refl

pub doubles_pinned : map (λ (x : List ℕ × Place). double x.0 x.1) numbers
    ≡ Ok 0x4014000000000000 ∷ Ok 0xbff0000000000000 ∷ Err V.OutOfRange ∷ Err V.OutOfRange ∷ Ok 0x4340000000000000 ∷ Err V.OutOfRange
    ∷ Ok 0xc340000000000000
    ∷ Ok 0x3ff0000000000000 ∷ Ok 0xfff8000020000000 ∷ Err V.WrongKind ∷ Err V.WrongKind ∷ []
unfolding var_uint is_text due known is_bare read_var_uint fixed head payload check double widen of_integer of_bits to_bits of_int nan_bits
doubles_pinned = refl

pub ticks_pinned : map (λ (x : List ℕ × Place). ticks x.0 x.1) numbers
    ≡ Err P.WrongKind ∷ Err P.WrongKind ∷ Err P.WrongKind ∷ Err P.WrongKind ∷ Err P.WrongKind ∷ Err P.WrongKind ∷ Err P.WrongKind ∷ Err P.WrongKind
    ∷ Err P.WrongKind ∷ Ok (negsuc 0) ∷ Err P.WrongKind ∷ []
unfolding var_uint is_text due known is_bare read_var_uint fixed head payload check ticks nan_bits
ticks_pinned = refl
