-- Every number of the mask, the mode that each fault is asked by, and each order that document 01 states ("The mask"), by payloads whose masks are computed.
-- The answers are 01's, and for the byte that fields share 02's (M-102). They were written from the tables, and exchanging two numbers, two modes or two
-- orders in the definitions is refused here.
use Prim.Native.Nat.{ℕ, zero, suc, ◌+◌}
use mathlib.Core.Path.{◌≡◌, refl}
use mathlib.Core.List.{List, [], ◌∷◌, ◌++◌, map}
use lib.ListN.{replicate}
use Rattle.number.specs.BigEndian.{to_bytes}
use Rattle.number.specs.VarUInt.{var_uint, encoded}
use Rattle.text.specs.Utf8.{is_text, due}
use Rattle.text.specs.Equal.{equal}
use Rattle.float.specs.Rule.{holds}
use Rattle.format.specs.Kinds.{known, is_bare, is_uniform, is_uniform_array}
use Rattle.format.specs.Parse.{read_var_uint, fixed}
use Rattle.format.specs.Names.{is_empty, twins}
use Rattle.format.specs.Payload.{front, head, payload}
use Rattle.format.specs.Encoding.{with_size}
use Rattle.format.specs.Reader.{read}
use Rattle.format.specs.Mask.{mask}

-- nothing asked; Names; Format; Padding; all three; and bits that no mode has
abbrev asked : List ℕ
asked = 0 ∷ 1 ∷ 2 ∷ 4 ∷ 7 ∷ 248 ∷ []

-- a payload, and its masks under each of these
pub record Row : Type 0 where
  pub bytes : List ℕ
  pub masks : List ℕ

abbrev row : List ℕ → List ℕ → Row
row s m = record { bytes = s; masks = m }

-- a stopping fault, whatever is asked; nothing at fault
abbrev stops : ℕ → List ℕ → Row
stops k s = row s (k ∷ k ∷ k ∷ k ∷ k ∷ k ∷ [])

abbrev sound : List ℕ → Row
sound s = stops 0 s

-- a fault that counts under one mode
abbrev names : ℕ → List ℕ → Row
names v s = row s (0 ∷ v ∷ 0 ∷ 0 ∷ v ∷ 0 ∷ [])

abbrev format : ℕ → List ℕ → Row
format v s = row s (0 ∷ 0 ∷ v ∷ 0 ∷ v ∷ 0 ∷ [])

abbrev padding : ℕ → List ℕ → Row
padding v s = row s (0 ∷ 0 ∷ 0 ∷ v ∷ v ∷ 0 ∷ [])

abbrev zeros : ℕ → List ℕ
zeros n = replicate n 0

-- a payload of n bytes, as one number
abbrev of : ℕ → ℕ → List ℕ
of n v = to_bytes n v

-- an item with this ID and payload in n arrays more, of one item each; and so from the top, where it stands at depth n + 2
abbrev item : ℕ → ℕ → List ℕ → List ℕ
item zero k p = (0x40 + k) ∷ p
item (suc n) k p = 0x44 ∷ with_size (0x01 ∷ item n k p)

abbrev under : ℕ → ℕ → List ℕ → List ℕ
under n k p = 0x04 ∷ with_size (0x01 ∷ item n k p)

-- ---- the IDs and their payloads
abbrev kinds : List Row
kinds =
    sound (of 1 0x01) ∷ sound (of 1 0x0c) ∷ sound (of 1 0x0d)
    ∷ sound (of 2 0x0200) ∷ sound (of 5 0x0303810161) ∷ sound (of 3 0x040100) ∷ sound (of 5 0x0503010805)
    ∷ sound (of 3 0x0601c3) ∷ sound (of 3 0x070161) ∷ sound (of 2 0x0805) ∷ sound (of 2 0x0905)
    ∷ sound (of 5 0x0a3f800000) ∷ sound (of 9 0x0b3690000000000000)
    ∷ sound (0x0e ∷ zeros 20) ∷ sound (0x0f ∷ zeros 20) ∷ sound (0x10 ∷ zeros 20) ∷ sound (0x11 ∷ zeros 16)
    ∷ sound (0x12 ∷ zeros 8) ∷ sound (0x13 ∷ zeros 8) ∷ sound (0x14 ∷ zeros 12)
    ∷ sound (of 4 0x1e0205c3) ∷ sound (of 5 0x1f030161c3)
    -- one byte too few, where the kind tells how many there are
    ∷ stops 1 (of 4 0x0a3f8000) ∷ stops 1 (of 8 0x0b36900000000000)
    ∷ stops 1 (0x0e ∷ zeros 19) ∷ stops 1 (0x0f ∷ zeros 19) ∷ stops 1 (0x10 ∷ zeros 19) ∷ stops 1 (0x11 ∷ zeros 15)
    ∷ stops 1 (0x12 ∷ zeros 7) ∷ stops 1 (0x13 ∷ zeros 7) ∷ stops 1 (0x14 ∷ zeros 11)
    -- other IDs, and other flag bits than the place asks
    ∷ stops 2 (of 1 0x00) ∷ stops 2 (of 1 0x15) ∷ stops 2 (of 1 0x1d) ∷ stops 2 (of 1 0x20)
    ∷ stops 2 (of 1 0x41) ∷ stops 2 (of 1 0x81) ∷ stops 2 (of 1 0xc1)
    ∷ stops 2 (of 5 0x0203010161) ∷ stops 2 (of 5 0x0203410161) ∷ stops 2 (of 5 0x0203810161)
    ∷ stops 2 (of 4 0x04020101) ∷ stops 2 (of 4 0x04020181) ∷ stops 2 (of 4 0x040201c1)
    ∷ []

-- ---- stopping faults, and which comes first
abbrev stopping : List Row
stopping =
    -- 1: bytes end early, a size does not fit, a counted item is missing, bytes are left in a container
    stops 1 [] ∷ stops 1 (of 2 0x0880) ∷ stops 1 (of 3 0x060200) ∷ stops 1 (of 4 0x04020241) ∷ stops 1 (of 5 0x0403014141)
    ∷ stops 1 (of 2 0x1e00) ∷ stops 1 (of 3 0x1f0105)
    -- 4: at depth 32 a field may stand, at depth 33 none
    ∷ format 1024 (under 30 0x01 []) ∷ stops 4 (under 31 0x01 [])
    -- 2048: 03 with no field; 05 with count 0, also where that is written long, or of 01, 0C, 0D
    ∷ stops 2048 (of 3 0x030188) ∷ stops 2048 (of 4 0x05020008) ∷ stops 2048 (of 5 0x0503800008)
    ∷ stops 2048 (of 4 0x05020101) ∷ stops 2048 (of 4 0x0502010c) ∷ stops 2048 (of 4 0x0502010d)
    -- at a field: depth, before its bytes are looked for and before its type
    ∷ stops 4 (under 30 0x04 (of 2 0x0101)) ∷ stops 4 (under 30 0x05 (of 3 0x020108)) ∷ stops 4 (under 31 0x15 []) ∷ stops 4 (under 30 0x02 (of 2 0x0115))
    -- with no item and no field there is nothing at depth 33
    ∷ format 1024 (under 30 0x04 (of 2 0x0100)) ∷ format 1024 (under 30 0x02 (of 1 0x00))
    -- type byte present, then ID and flags, then the name
    ∷ stops 1 (of 3 0x040101) ∷ stops 2 (of 4 0x02021505) ∷ stops 1 (of 3 0x0201c1)
    -- the name before the payload
    ∷ stops 1 (of 7 0x0205c305610115)
    -- the size before what stands in it: items, a shared byte, a count
    ∷ stops 1 (of 4 0x04030155) ∷ stops 2 (of 4 0x04020155)
    ∷ stops 1 (of 3 0x030208) ∷ stops 1 (of 3 0x030295) ∷ stops 1 (of 3 0x030288) ∷ stops 1 (of 4 0x05030115) ∷ stops 1 (of 4 0x05030008)
    -- the shared byte: missing 1, then unknown 2, then 2048
    ∷ stops 1 (of 2 0x0300) ∷ stops 1 (of 3 0x050100) ∷ stops 1 (of 4 0x05010008)
    ∷ stops 2 (of 3 0x030108) ∷ stops 2 (of 3 0x030115) ∷ stops 2 (of 3 0x030148) ∷ stops 2 (of 3 0x0301a8) ∷ stops 2 (of 3 0x0301c8)
    ∷ stops 2 (of 3 0x030180) ∷ stops 2 (of 3 0x030195)
    ∷ stops 2 (of 4 0x05020015) ∷ stops 2 (of 4 0x05020028) ∷ stops 2 (of 4 0x05020048) ∷ stops 2 (of 4 0x05020088) ∷ stops 2 (of 4 0x050200c8)
    ∷ stops 2 (of 4 0x0502014c) ∷ stops 2 (of 4 0x0502018c) ∷ stops 2 (of 4 0x050201c1) ∷ stops 2 (of 4 0x05020115)
    -- a bad one with fields or items behind it; before a cut name, and before depth, which comes before the name
    ∷ stops 2 (of 6 0x030408016105) ∷ stops 2 (of 5 0x0503018805) ∷ stops 2 (of 4 0x03020805)
    ∷ stops 2 (under 30 0x03 (of 4 0x03080161)) ∷ stops 2 (under 30 0x05 (of 3 0x020115)) ∷ stops 4 (under 30 0x03 (of 3 0x028805))
    -- a field that is cut is a field, so this is 1 and not 2048: in its name, in its payload
    ∷ stops 1 (of 4 0x03028805) ∷ stops 1 (of 5 0x0303880161)
    -- 05 in 03: its own byte is bare
    ∷ stops 2 (of 9 0x030785016103018805) ∷ stops 1 (of 8 0x0306850161020108)
    -- 03 in 03: 01's nested case as 01 spelled it; with its inner shared byte so, and with its outer one
    ∷ stops 2 (of 14 0x030c0305696e6e6572040801780a) ∷ stops 2 (of 14 0x030c8305696e6e6572040801780a) ∷ stops 2 (of 14 0x030c0305696e6e6572048801780a)
    -- 2048 before bytes left, before a missing item, and before depth
    ∷ stops 2048 (of 5 0x0503000800) ∷ stops 2048 (of 4 0x0502020c) ∷ stops 2048 (under 30 0x05 (of 3 0x02010c)) ∷ stops 2048 (under 30 0x03 (of 2 0x0188))
    -- bytes left, whatever they would be
    ∷ stops 1 (of 4 0x04020055) ∷ stops 1 (of 5 0x0403014155)
    -- the first in document order: an unknown item before a missing one and the other way round, an inner before a later outer one
    ∷ stops 2 (of 4 0x04020255) ∷ stops 2 (of 5 0x0403024155) ∷ stops 1 (of 7 0x04050244010155) ∷ stops 2 (of 7 0x04050244020155)
    -- alone, whatever was met before it
    ∷ stops 2 (of 7 0x04050248800555)
    ∷ []

-- ---- faults that do not stop
abbrev flaws : List Row
flaws =
    -- 16: in 02 and in 03; names that differ in their last byte, and one that begins another
    names 16 (of 9 0x0207c10161c8016105) ∷ names 16 (of 7 0x03058101610161) ∷ sound (of 7 0x03058101610162) ∷ sound (of 8 0x0306810161026161)
    -- two that are no neighbours; equal names of two objects
    ∷ names 16 (of 9 0x030781016101620161) ∷ sound (of 12 0x050a02030381016103810161)
    -- 32; two empty names are equal
    ∷ names 32 (of 8 0x0206c100c8016105) ∷ names 48 (of 7 0x0205c100c80005)
    -- 64: an integer, a size, a count, a name's length, a custom's id and name's length
    ∷ format 64 (of 3 0x088005) ∷ format 64 (of 3 0x068000) ∷ format 64 (of 4 0x04028000) ∷ format 64 (of 10 0x0208c1800161c8016205)
    ∷ format 64 (of 4 0x1e028005) ∷ format 64 (of 5 0x1f03800161) ∷ format 64 (of 3 0x098005)
    ∷ sound (of 2 0x087f) ∷ format 64 (of 3 0x08807f) ∷ sound (of 3 0x088080) ∷ format 64 (of 10 0x08ff00ffffffffffffff) ∷ sound (of 10 0x08ff0100000000000000)
    -- 128
    ∷ format 128 (of 10 0x09ff8000000000000000) ∷ sound (of 10 0x09ff7fffffffffffffff) ∷ sound (of 10 0x08ff8000000000000000)
    -- 256
    ∷ format 256 (of 9 0x0b3ff0000000000000) ∷ format 256 (of 9 0x0b36a0000000000000) ∷ sound (of 9 0x0b7ff8000000000000)
    -- 512: a string, a field's name, a custom's name; not a binary, nor the rest of a custom
    ∷ format 512 (of 3 0x0701c3) ∷ format 512 (of 9 0x0207c101c3c8016105) ∷ format 512 (of 4 0x1f0201c3)
    -- 1024: an object's fields of one ID, 01, 0C and 0D too; an array's, but not of those
    ∷ format 1024 (of 6 0x0204c8016105) ∷ format 1024 (of 5 0x0203c10161) ∷ format 1024 (of 5 0x0203cc0161) ∷ format 1024 (of 5 0x0403014805)
    ∷ format 1024 (of 7 0x04050248014802)
    ∷ sound (of 4 0x04020141) ∷ sound (of 4 0x0402014c) ∷ sound (of 4 0x0402014d) ∷ sound (of 7 0x04050248014900) ∷ sound (of 6 0x040402414805)
    -- 01's nested case: plain; and uniform, as M-102 spells it. 05 in 03. An object of 0C
    ∷ format 1024 (of 14 0x020cc205696e6e657204c801780a) ∷ sound (of 14 0x030c8305696e6e6572048801780a) ∷ sound (of 9 0x030785016103010805)
    ∷ sound (of 5 0x03038c0161)
    -- 4096
    ∷ padding 4096 (of 3 0x080500)
    -- each once: two of one kind; several of one payload
    ∷ format 64 (of 8 0x0506020880058006) ∷ row (of 9 0x0207c100c801618005) (0 ∷ 32 ∷ 64 ∷ 0 ∷ 96 ∷ 0 ∷ [])
    -- an array of an object with two empty names and a long integer, an object of one field whose name is no text,
    -- a low integer and a wide float; and a byte behind it
    ∷ row (of 36 0x0421044206c100c80080054203c101c349ff80000000000000004b000000000000000000) (0 ∷ 48 ∷ 1984 ∷ 4096 ∷ 6128 ∷ 0 ∷ [])
    ∷ []

abbrev computed : Row → Row
computed x = record { bytes = x.bytes; masks = map (λ m. mask m x.bytes) asked }

abbrev pub pinned : List Row
pinned = kinds ++ stopping ++ flaws

pub masks_pinned : map computed pinned ≡ pinned
unfolding var_uint encoded is_text due equal holds known is_bare is_uniform is_uniform_array read_var_uint fixed is_empty twins front head payload read mask
masks_pinned = refl

-- 8: of 65,536 bytes there is none; of 65,537 it comes before all else, whatever is asked
pub length_pinned : map (λ (x : ℕ × List ℕ). mask x.0 x.1)
    ((7, 0x01 ∷ zeros 65535) ∷ (7, 0x01 ∷ zeros 65536) ∷ (0, 0x15 ∷ zeros 65536) ∷ []) ≡ 4096 ∷ 8 ∷ 8 ∷ []
unfolding var_uint encoded is_text due equal holds known is_bare is_uniform is_uniform_array read_var_uint fixed is_empty twins front head payload read mask
length_pinned = refl
