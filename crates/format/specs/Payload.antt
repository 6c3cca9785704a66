-- What stands before a field's contents: its type byte and name (`front`), and its payload up to the contents (`head`). The reader and the calls
-- on places share them, and the write list shares the table of payloads (document 01, "Kinds and payloads", and the order at a field, "The mask").
use Rattle.std.specs.Prelude.{ℕ, zero, suc, ◌^◌, true, false, not, cond, List, [], ◌∷◌, ltb, pos, Option, None, Some}
use Rattle.number.specs.BigEndian.{from_bytes}
use Rattle.number.specs.Signed.{minus_plus_one, from_twos}
use Rattle.float.specs.Rule.{holds}
use Rattle.float.specs.Width.{is_nan32, is_nan64, widen}
use Rattle.format.specs.declared.Kind.{Kind}
use Rattle.format.specs.declared.Kind.TheVariants.{Null, Object, UniformObject, Array, UniformArray, Binary, String, IntegerPositive, IntegerNegative}
use Rattle.format.specs.declared.Kind.TheVariants.{Float32, Float64, False, True, ObjectAttachment, BinaryAttachment, Hash, Uuid, DateTime, TimeSpan}
use Rattle.format.specs.declared.Kind.TheVariants.{ObjectId, CustomById, CustomByName}
use Rattle.format.specs.declared.Mark.{Mark}
use Rattle.format.specs.declared.Mark.TheVariants.{OfTop, OfField, OfItem, SharedByFields, SharedByItems}
use Rattle.format.specs.declared.Form.{Form}
use Rattle.format.specs.declared.Form.TheVariants.{Top, Field, Item, SharedField, SharedItem}
use Rattle.format.specs.declared.Stop.TheVariants.{Early, BadUniform}
use Rattle.format.specs.declared.Stop.TheVariants as S
use Rattle.format.specs.Kinds.{kind_at, is_bare}
use Rattle.format.specs.declared.Flaw.TheVariants.{Low, Wide}
use Rattle.format.specs.Parse.{Out, fault, got, bind, raise, make, read_var_uint, fixed, sized, rest}
use Rattle.format.specs.Names.{read_text, read_name}
use Rattle.format.specs.declared.Inner.TheVariants as I
use Rattle.format.specs.declared.Inner.{Inner}
use Rattle.format.specs.declared.Class.{Class}
use Rattle.format.specs.declared.Class.TheVariants as C
use Rattle.format.specs.Tree.{Float, number, nan32, nan64, Leaf, null, bool, integer, float, binary, string, object_attachment, binary_attachment, hash}
use Rattle.format.specs.Tree.{uuid, object_id, date_time, time_span, custom_by_id, custom_by_name}

-- ---- the type byte and the name

abbrev pub kind_found : Option Kind → List ℕ → Out Kind
kind_found None s = fault S.Unknown
kind_found (Some k) s = got k [] s

abbrev pub read_type : Mark → List ℕ → Out Kind
read_type m [] = fault Early
read_type m (b ∷ s) = kind_found (kind_at m b) s

abbrev pub read_kind : Form → List ℕ → Out Kind
read_kind Top s = read_type OfTop s
read_kind Field s = read_type OfField s
read_kind Item s = read_type OfItem s
read_kind (SharedField k) s = got k [] s
read_kind (SharedItem k) s = got k [] s

-- only an object's fields have names
abbrev pub read_name_if : Form → List ℕ → Out (List ℕ)
read_name_if Top s = got [] [] s
read_name_if Field s = read_name s
read_name_if Item s = got [] [] s
read_name_if (SharedField k) s = read_name s
read_name_if (SharedItem k) s = got [] [] s

unfoldable pub front : Form → List ℕ → Out (List ℕ × Kind)
front f s = bind (read_kind f s) λ k r. bind (read_name_if f r) λ n q. got (n, k) [] q

-- ---- the payload of a leaf

abbrev pub float32 : ℕ → Float
float32 b = cond (is_nan32 b) (nan32 b) (number (widen b))

abbrev pub float64 : ℕ → Float
float64 b = cond (is_nan64 b) (nan64 b) (number b)

abbrev pub read_negative : List ℕ → Out Leaf
read_negative s = bind (read_var_uint s) λ m r. raise (not (ltb m (2 ^ 63))) Low (got (integer (minus_plus_one m)) [] r)

abbrev pub read_float64 : List ℕ → Out Leaf
read_float64 s = bind (fixed 8 s) λ b r. raise (holds (from_bytes b)) Wide (got (float (float64 (from_bytes b))) [] r)

abbrev pub read_custom_by_id : List ℕ → Out Leaf
read_custom_by_id s = bind (read_var_uint s) λ n r. make (custom_by_id n) (rest r)

abbrev pub read_custom_by_name : List ℕ → Out Leaf
read_custom_by_name s = bind (read_text s) λ n r. make (custom_by_name n) (rest r)

-- ---- the table of kinds: what each payload is made of

-- no byte, and which leaf it is; as many bytes, whatever they are, and which leaf they are; text behind its size; a VarUInt, and one that counts down; a
-- Float64; or what stands behind a size
pub data Shape : Type 0 where
  nothing : Leaf → Shape
  bytes : ℕ → (List ℕ → Leaf) → Shape
  text positive negative wide : Shape
  behind : Inner → Shape

abbrev pub shape_of : Kind → Shape
shape_of Null = nothing null
shape_of Object = behind I.Fields
shape_of UniformObject = behind I.SharedFields
shape_of Array = behind I.Items
shape_of UniformArray = behind I.SharedItems
shape_of Binary = behind I.Bytes
shape_of String = text
shape_of IntegerPositive = positive
shape_of IntegerNegative = negative
shape_of Float32 = bytes 4 λ b. float (float32 (from_bytes b))
shape_of Float64 = wide
shape_of False = nothing (bool false)
shape_of True = nothing (bool true)
shape_of ObjectAttachment = bytes 20 object_attachment
shape_of BinaryAttachment = bytes 20 binary_attachment
shape_of Hash = bytes 20 hash
shape_of Uuid = bytes 16 uuid
shape_of DateTime = bytes 8 λ b. date_time (from_twos (from_bytes b))
shape_of TimeSpan = bytes 8 λ b. time_span (from_twos (from_bytes b))
shape_of ObjectId = bytes 12 object_id
shape_of CustomById = behind I.ById
shape_of CustomByName = behind I.ByName

-- the class tells no leaf
abbrev pub class_in : Shape → Class
class_in (nothing v) = C.Fixed 0
class_in (bytes n made) = C.Fixed n
class_in text = C.Text
class_in positive = C.Positive
class_in negative = C.Negative
class_in wide = C.Wide
class_in (behind i) = C.Behind i

abbrev pub class_of : Kind → Class
class_of k = class_in (shape_of k)

-- ---- a payload by its shape: how a leaf is read, or which container it is

pub data Payload : Type 0 where
  leaf : (List ℕ → Out Leaf) → Payload
  fields shared_fields items shared_items : Payload

abbrev pub payload_in : Shape → Payload
payload_in (nothing v) = leaf λ s. got v [] s
payload_in (bytes n made) = leaf λ s. make made (fixed n s)
payload_in text = leaf λ s. make string (read_text s)
payload_in positive = leaf λ s. make (λ m. integer (pos m)) (read_var_uint s)
payload_in negative = leaf read_negative
payload_in wide = leaf read_float64
payload_in (behind I.Bytes) = leaf λ s. make binary (sized rest s)
payload_in (behind I.ById) = leaf λ s. sized read_custom_by_id s
payload_in (behind I.ByName) = leaf λ s. sized read_custom_by_name s
payload_in (behind I.Fields) = fields
payload_in (behind I.SharedFields) = shared_fields
payload_in (behind I.Items) = items
payload_in (behind I.SharedItems) = shared_items

unfoldable pub payload : Kind → Payload
payload k = payload_in (shape_of k)

-- ---- the payload up to its contents

-- a leaf's value; or how the fields or items stand, the count of the items, and the bytes of the contents
pub data Head : Type 0 where
  value : Leaf → Head
  fields_in : Form → List ℕ → Head
  items_in : Form → ℕ → List ℕ → Head

abbrev pub shared_fields_of : Option Kind → List ℕ → Out Head
shared_fields_of None s = fault S.Unknown
shared_fields_of (Some k) [] = fault BadUniform
shared_fields_of (Some k) (b ∷ s) = got (fields_in (SharedField k) (b ∷ s)) [] []

abbrev pub read_shared_fields : List ℕ → Out Head
read_shared_fields [] = fault Early
read_shared_fields (b ∷ s) = shared_fields_of (kind_at SharedByFields b) s

abbrev pub shared_items_of : ℕ → Option Kind → List ℕ → Out Head
shared_items_of n None s = fault S.Unknown
shared_items_of zero (Some k) s = fault BadUniform
shared_items_of (suc n) (Some k) s = cond (is_bare k) (fault BadUniform) (got (items_in (SharedItem k) (suc n) s) [] [])

abbrev pub read_shared_items : ℕ → List ℕ → Out Head
read_shared_items n [] = fault Early
read_shared_items n (b ∷ s) = shared_items_of n (kind_at SharedByItems b) s

abbrev pub read_fields : List ℕ → Out Head
read_fields s = got (fields_in Field s) [] []

abbrev pub read_items : List ℕ → Out Head
read_items s = bind (read_var_uint s) λ n r. got (items_in Item n r) [] []

abbrev pub head_by : Payload → List ℕ → Out Head
head_by (leaf p) s = make value (p s)
head_by fields s = sized read_fields s
head_by shared_fields s = sized read_shared_fields s
head_by items s = sized read_items s
head_by shared_items s = sized (λ b. bind (read_var_uint b) read_shared_items) s

unfoldable pub head : Kind → List ℕ → Out Head
head k s = head_by (payload k) s
