-- The encoding of a tree (document 01, "Trees").
use Rattle.std.specs.Prelude.{ℕ, zero, suc, ◌≤◌, Bool, true, false, cond, List, [], ◌∷◌, ◌++◌, map, length, ℤ, pos, negsuc}
use Rattle.number.specs.BigEndian.{to_bytes}
use Rattle.number.specs.VarUInt.{encoded}
use Rattle.number.specs.Signed.{to_twos}
use Rattle.float.specs.Rule.{holds}
use Rattle.float.specs.Width.{narrow}
use Rattle.format.specs.declared.Kind.{Kind}
use Rattle.format.specs.declared.Kind.TheVariants.{Null, Object, UniformObject, Array, UniformArray, Binary, String, IntegerPositive, IntegerNegative}
use Rattle.format.specs.declared.Kind.TheVariants.{Float32, Float64, False, True, ObjectAttachment, BinaryAttachment, Hash, Uuid, DateTime, TimeSpan}
use Rattle.format.specs.declared.Kind.TheVariants.{ObjectId, CustomById, CustomByName}
use Rattle.format.specs.declared.Mark.{Mark}
use Rattle.format.specs.declared.Mark.TheVariants.{OfTop, OfField, OfItem, SharedByFields, SharedByItems}
use Rattle.format.specs.Limits.{depth_limit, length_limit}
use Rattle.format.specs.Kinds.{type_byte, is_uniform, is_uniform_array}
use Rattle.format.specs.Tree.{Float, number, nan32, nan64, Leaf, null, bool, integer, float, binary, string, object_attachment, binary_attachment, hash}
use Rattle.format.specs.Tree.{uuid, object_id, date_time, time_span, custom_by_id, custom_by_name, Node, atom, array, object, Tree, Within}

-- a size, and the bytes that it counts
abbrev pub with_size : List ℕ → List ℕ
with_size s = encoded (length s) ++ s

abbrev pub concat : {A : Type 0} → (A → List ℕ) → List A → List ℕ
concat f [] = []
concat f (x ∷ xs) = f x ++ concat f xs

-- Float32 where the float rule allows
abbrev pub float_kind : Float → Kind
float_kind (number b) = cond (holds b) Float32 Float64
float_kind (nan32 b) = Float32
float_kind (nan64 b) = Float64

abbrev pub float_payload : Float → List ℕ
float_payload (number b) = cond (holds b) (to_bytes 4 (narrow b)) (to_bytes 8 b)
float_payload (nan32 b) = to_bytes 4 b
float_payload (nan64 b) = to_bytes 8 b

abbrev pub integer_kind : ℤ → Kind
integer_kind (pos n) = IntegerPositive
integer_kind (negsuc n) = IntegerNegative

abbrev pub integer_payload : ℤ → List ℕ
integer_payload (pos n) = encoded n
integer_payload (negsuc n) = encoded n

abbrev pub leaf_kind : Leaf → Kind
leaf_kind null = Null
leaf_kind (bool b) = cond b True False
leaf_kind (integer z) = integer_kind z
leaf_kind (float x) = float_kind x
leaf_kind (binary s) = Binary
leaf_kind (string s) = String
leaf_kind (object_attachment s) = ObjectAttachment
leaf_kind (binary_attachment s) = BinaryAttachment
leaf_kind (hash s) = Hash
leaf_kind (uuid s) = Uuid
leaf_kind (object_id s) = ObjectId
leaf_kind (date_time z) = DateTime
leaf_kind (time_span z) = TimeSpan
leaf_kind (custom_by_id n s) = CustomById
leaf_kind (custom_by_name n s) = CustomByName

abbrev pub leaf_payload : Leaf → List ℕ
leaf_payload null = []
leaf_payload (bool b) = []
leaf_payload (integer z) = integer_payload z
leaf_payload (float x) = float_payload x
leaf_payload (binary s) = with_size s
leaf_payload (string s) = with_size s
leaf_payload (object_attachment s) = s
leaf_payload (binary_attachment s) = s
leaf_payload (hash s) = s
leaf_payload (uuid s) = s
leaf_payload (object_id s) = s
leaf_payload (date_time z) = to_bytes 8 (to_twos z)
leaf_payload (time_span z) = to_bytes 8 (to_twos z)
leaf_payload (custom_by_id n s) = with_size (encoded n ++ s)
leaf_payload (custom_by_name n s) = with_size (with_size n ++ s)

-- the shared byte of a list of kinds that is uniform
abbrev pub shared_byte : Mark → List Kind → List ℕ
shared_byte m [] = []
shared_byte m (k ∷ ks) = type_byte m k ∷ []

-- One layer. The fields' own encodings settle their IDs first: `kind` and `payload` are theirs
abbrev pub item_kinds : {A : Type 0} → (A → Kind) → List A → List Kind
item_kinds kind xs = map kind xs

abbrev pub field_kinds : {A : Type 0} → (A → Kind) → List (List ℕ × A) → List Kind
field_kinds kind xs = map (λ x. kind x.1) xs

abbrev pub node_kind : {A : Type 0} → (A → Kind) → Node A → Kind
node_kind kind (atom v) = leaf_kind v
node_kind kind (array xs) = cond (is_uniform_array (item_kinds kind xs)) UniformArray Array
node_kind kind (object xs) = cond (is_uniform (field_kinds kind xs)) UniformObject Object

-- an array's items, and an object's fields: with a shared byte, or each with its own type byte
abbrev pub items : {A : Type 0} → Bool → (A → Kind) → (A → List ℕ) → List A → List ℕ
items true kind payload xs = shared_byte SharedByItems (item_kinds kind xs) ++ concat payload xs
items false kind payload xs = concat (λ x. type_byte OfItem (kind x) ∷ payload x) xs

abbrev pub fields : {A : Type 0} → Bool → (A → Kind) → (A → List ℕ) → List (List ℕ × A) → List ℕ
fields true kind payload xs = shared_byte SharedByFields (field_kinds kind xs) ++ concat (λ x. with_size x.0 ++ payload x.1) xs
fields false kind payload xs = concat (λ x. type_byte OfField (kind x.1) ∷ (with_size x.0 ++ payload x.1)) xs

-- all that follows a container's size
abbrev pub array_body : {A : Type 0} → (A → Kind) → (A → List ℕ) → List A → List ℕ
array_body kind payload xs = encoded (length xs) ++ items (is_uniform_array (item_kinds kind xs)) kind payload xs

abbrev pub object_body : {A : Type 0} → (A → Kind) → (A → List ℕ) → List (List ℕ × A) → List ℕ
object_body kind payload xs = fields (is_uniform (field_kinds kind xs)) kind payload xs

abbrev pub node_payload : {A : Type 0} → (A → Kind) → (A → List ℕ) → Node A → List ℕ
node_payload kind payload (atom v) = leaf_payload v
node_payload kind payload (array xs) = with_size (array_body kind payload xs)
node_payload kind payload (object xs) = with_size (object_body kind payload xs)

-- every layer
abbrev pub kind_of : (d : ℕ) → Tree d → Kind
kind_of zero t = absurd t
kind_of (suc d) t = node_kind (kind_of d) t

abbrev pub payload_of : (d : ℕ) → Tree d → List ℕ
payload_of zero t = absurd t
payload_of (suc d) t = node_payload (kind_of d) (payload_of d) t

unfoldable pub encoding : (d : ℕ) → Tree d → List ℕ
encoding d t = type_byte OfTop (kind_of d t) ∷ payload_of d t

-- the sizes of the containers as encoded, in order of opening
abbrev pub node_sizes : {A : Type 0} → (A → Kind) → (A → List ℕ) → (A → List ℕ) → Node A → List ℕ
node_sizes kind payload sizes (atom v) = []
node_sizes kind payload sizes (array xs) = length (array_body kind payload xs) ∷ concat sizes xs
node_sizes kind payload sizes (object xs) = length (object_body kind payload xs) ∷ concat (λ x. sizes x.1) xs

abbrev pub sizes_of : (d : ℕ) → Tree d → List ℕ
sizes_of zero t = absurd t
sizes_of (suc d) t = node_sizes (kind_of d) (payload_of d) (sizes_of d) t

-- trees within the limits: depth 32 by the type, and 65,536 encoded bytes at most
pub record WithinLimits (t : Tree depth_limit) : Type 0 where
  pub within : Within depth_limit t
  pub short : length (encoding depth_limit t) ≤ length_limit
