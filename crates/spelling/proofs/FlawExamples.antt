-- Layouts beside the sum of the flaws that document 01's table gives them, and the type bytes, computed from definitions that do not know the reader
-- (specs/Flawed.antt, Kinds.antt).
use Prim.Native.Nat.{ℕ, ◌-◌, ◌^◌}
use mathlib.Core.Path.{◌≡◌, refl}
use mathlib.Core.Bool.{true, false}
use mathlib.Core.List.{List, [], ◌∷◌, map}
use lib.IntN.{pos, negsuc}
use Rattle.text.specs.Utf8.{is_text, due}
use Rattle.text.specs.Equal.{equal}
use Rattle.float.specs.Rule.{holds}
use Rattle.format.specs.declared.Kind.{Kind}
use Rattle.format.specs.declared.Kind.TheVariants.{Null, Object, UniformObject, Array, UniformArray, Binary, String, IntegerPositive, IntegerNegative}
use Rattle.format.specs.declared.Kind.TheVariants.{Float32, Float64, False, True, CustomByName}
use Rattle.format.specs.declared.Mark.TheVariants.{OfTop, OfField, OfItem, SharedByFields, SharedByItems}
use Rattle.format.specs.Kinds.{kinds, type_byte, is_bare, is_uniform, is_uniform_array}
use Rattle.format.specs.Names.{is_empty, twins}
use Rattle.format.specs.Tree.{number, nan64, Leaf, null, bool, integer, float, binary, string, custom_by_name, atom, array, object}
use Rattle.format.specs.Reader.{Standing, Named, Layout}
use Rattle.format.specs.Mask.{flaws, strict}
use Rattle.spelling.specs.Flawed.{flawed, sum_where}

-- the sum of what it has, under all modes
abbrev sum : Standing (Layout 3) → ℕ
sum x = sum_where strict (λ f. flawed f 3 x) flaws

abbrev Field : Type 0
Field = Standing (Layout 2)

abbrev one : Field
one = (IntegerPositive, atom (integer (pos 1)))

abbrev minus : Field
minus = (IntegerNegative, atom (integer (negsuc 0)))

abbrev word : Field
word = (String, atom (string (0x77 ∷ [])))

abbrev so : Field
so = (True, atom (bool true))

abbrev not_so : Field
not_so = (False, atom (bool false))

abbrev nothing : Field
nothing = (Null, atom null)

abbrev a : List ℕ
a = 0x61 ∷ []

abbrev b : List ℕ
b = 0x62 ∷ []

-- two bytes of a UTF-8 character, and the first alone
abbrev e_acute : List ℕ
e_acute = 0xc3 ∷ 0xa9 ∷ []

abbrev cut : List ℕ
cut = 0xc3 ∷ []

abbrev leaf : Kind → Leaf → Standing (Layout 3)
leaf k v = (k, atom v)

abbrev fields : Kind → List (Named Field) → Standing (Layout 3)
fields k xs = (k, object xs)

abbrev items : Kind → List Field → Standing (Layout 3)
items k xs = (k, array xs)

pub record Example : Type 0 where
  pub layout : Standing (Layout 3)
  pub sum : ℕ

abbrev has_sum : ℕ → Standing (Layout 3) → Example
has_sum n x = record { layout = x; sum = n }

abbrev pub examples : List Example
examples =
    -- 16: in 02 and in 03, side by side or not, empty ones too; not in two objects
    has_sum 16 (fields Object ((a, one) ∷ (a, word) ∷ []))
    ∷ has_sum 16 (fields Object ((a, one) ∷ (b, word) ∷ (a, one) ∷ []))
    ∷ has_sum 16 (fields UniformObject ((a, one) ∷ (a, one) ∷ []))
    ∷ has_sum 48 (fields Object (([], one) ∷ ([], word) ∷ []))
    ∷ has_sum 0 (fields Object ((a, one) ∷ (b, word) ∷ []))
    ∷ has_sum 0 (fields Object ((a, (UniformObject, object ((a, (IntegerPositive, atom (integer (pos 1)))) ∷ []))) ∷ (b, word) ∷ []))
    -- 32
    ∷ has_sum 32 (fields UniformObject (([], one) ∷ []))
    ∷ has_sum 0 (fields UniformObject ((0x00 ∷ [], one) ∷ []))
    -- 128: M from 2^63 on
    ∷ has_sum 128 (leaf IntegerNegative (integer (negsuc (2 ^ 63))))
    ∷ has_sum 0 (leaf IntegerNegative (integer (negsuc (2 ^ 63 - 1))))
    ∷ has_sum 0 (leaf IntegerPositive (integer (pos (2 ^ 64 - 1))))
    -- 256: of Float64 alone; no NaN
    ∷ has_sum 256 (leaf Float64 (float (number 0x3ff0_0000_0000_0000)))
    ∷ has_sum 256 (leaf Float64 (float (number 0x36a0_0000_0000_0000)))
    ∷ has_sum 0 (leaf Float64 (float (number 0x3690_0000_0000_0000)))
    ∷ has_sum 0 (leaf Float32 (float (number 0x3ff0_0000_0000_0000)))
    ∷ has_sum 0 (leaf Float64 (float (nan64 0x7ff8_0000_0000_0000)))
    -- 512: String, field name and custom name; not Binary, nor the rest of a custom
    ∷ has_sum 512 (leaf String (string cut))
    ∷ has_sum 512 (fields UniformObject ((cut, one) ∷ []))
    ∷ has_sum 512 (leaf CustomByName (custom_by_name cut []))
    ∷ has_sum 0 (leaf String (string e_acute))
    ∷ has_sum 0 (fields UniformObject ((e_acute, one) ∷ []))
    ∷ has_sum 0 (leaf CustomByName (custom_by_name e_acute cut))
    ∷ has_sum 0 (leaf Binary (binary cut))
    -- 1024: 02 with one field or more of one ID, of True too; 04 with one item or more of one ID, not of 01, 0C, 0D; at any depth
    ∷ has_sum 1024 (fields Object ((a, one) ∷ []))
    ∷ has_sum 1024 (fields Object ((a, so) ∷ (b, so) ∷ []))
    ∷ has_sum 0 (fields Object [])
    ∷ has_sum 0 (fields Object ((a, so) ∷ (b, not_so) ∷ []))
    ∷ has_sum 0 (fields Object ((a, one) ∷ (b, minus) ∷ []))
    ∷ has_sum 0 (fields UniformObject ((a, one) ∷ (b, one) ∷ []))
    ∷ has_sum 1024 (items Array (one ∷ []))
    ∷ has_sum 1024 (items Array (one ∷ one ∷ []))
    ∷ has_sum 0 (items Array [])
    ∷ has_sum 0 (items Array (one ∷ one ∷ minus ∷ []))
    ∷ has_sum 0 (items Array (nothing ∷ []))
    ∷ has_sum 0 (items Array (so ∷ so ∷ []))
    ∷ has_sum 0 (items Array (not_so ∷ not_so ∷ []))
    ∷ has_sum 0 (items UniformArray (one ∷ one ∷ []))
    ∷ has_sum 1024 (items Array (word ∷ (Array, array ((IntegerPositive, atom (integer (pos 1))) ∷ [])) ∷ []))
    ∷ []

abbrev computed : Example → Example
computed x = record { layout = x.layout; sum = sum x.layout }

pub examples_hold : map computed examples ≡ examples
unfolding is_text due equal holds is_bare is_uniform is_uniform_array is_empty twins
examples_hold = refl

-- the type bytes of the kinds in order of their IDs: of the top field, of a field of 02, of an item of 04, shared by the fields of 03
-- (M-102), by the items of 05
pub type_bytes : map (λ m. map (type_byte m) kinds) (OfTop ∷ OfField ∷ OfItem ∷ SharedByFields ∷ SharedByItems ∷ [])
    ≡ (0x01 ∷ 0x02 ∷ 0x03 ∷ 0x04 ∷ 0x05 ∷ 0x06 ∷ 0x07 ∷ 0x08 ∷ 0x09 ∷ 0x0a ∷ 0x0b ∷ 0x0c ∷ 0x0d ∷ 0x0e ∷ 0x0f ∷ 0x10 ∷ 0x11 ∷ 0x12 ∷ 0x13
    ∷ 0x14 ∷ 0x1e ∷ 0x1f ∷ [])
    ∷ (0xc1 ∷ 0xc2 ∷ 0xc3 ∷ 0xc4 ∷ 0xc5 ∷ 0xc6 ∷ 0xc7 ∷ 0xc8 ∷ 0xc9 ∷ 0xca ∷ 0xcb ∷ 0xcc ∷ 0xcd ∷ 0xce ∷ 0xcf ∷ 0xd0 ∷ 0xd1 ∷ 0xd2 ∷ 0xd3
    ∷ 0xd4 ∷ 0xde ∷ 0xdf ∷ [])
    ∷ (0x41 ∷ 0x42 ∷ 0x43 ∷ 0x44 ∷ 0x45 ∷ 0x46 ∷ 0x47 ∷ 0x48 ∷ 0x49 ∷ 0x4a ∷ 0x4b ∷ 0x4c ∷ 0x4d ∷ 0x4e ∷ 0x4f ∷ 0x50 ∷ 0x51 ∷ 0x52 ∷ 0x53
    ∷ 0x54 ∷ 0x5e ∷ 0x5f ∷ [])
    ∷ (0x81 ∷ 0x82 ∷ 0x83 ∷ 0x84 ∷ 0x85 ∷ 0x86 ∷ 0x87 ∷ 0x88 ∷ 0x89 ∷ 0x8a ∷ 0x8b ∷ 0x8c ∷ 0x8d ∷ 0x8e ∷ 0x8f ∷ 0x90 ∷ 0x91 ∷ 0x92 ∷ 0x93
    ∷ 0x94 ∷ 0x9e ∷ 0x9f ∷ [])
    ∷ (0x01 ∷ 0x02 ∷ 0x03 ∷ 0x04 ∷ 0x05 ∷ 0x06 ∷ 0x07 ∷ 0x08 ∷ 0x09 ∷ 0x0a ∷ 0x0b ∷ 0x0c ∷ 0x0d ∷ 0x0e ∷ 0x0f ∷ 0x10 ∷ 0x11 ∷ 0x12 ∷ 0x13
    ∷ 0x14 ∷ 0x1e ∷ 0x1f ∷ [])
    ∷ []
type_bytes = refl
