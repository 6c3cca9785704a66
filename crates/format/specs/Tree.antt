-- Trees, and trees within the limits (document 01, "Trees").
use Rattle.std.specs.Prelude.{ℕ, zero, suc, ◌≤◌, ◌<◌, ◌^◌, ◌≡◌, Bool, true, false, List, [], ◌∷◌, map, length, ℤ, pos, negsuc}
use Rattle.number.specs.BigEndian.{All, Bytes}
use Rattle.text.specs.Utf8.{is_text}
use Rattle.float.specs.Width.{is_nan32, is_nan64}
use Rattle.format.specs.Names.{is_empty, twins}

-- its binary64 pattern if no NaN, else width and bits
pub data Float : Type 0 where
  number nan32 nan64 : ℕ → Float

pub data Leaf : Type 0 where
  null : Leaf
  bool : Bool → Leaf
  integer : ℤ → Leaf
  float : Float → Leaf
  binary string : List ℕ → Leaf
  object_attachment binary_attachment hash uuid object_id : List ℕ → Leaf
  date_time time_span : ℤ → Leaf
  custom_by_id : ℕ → List ℕ → Leaf
  custom_by_name : List ℕ → List ℕ → Leaf

-- one layer, over what the fields are: an array's items, an object's fields with their names
pub data Node (A : Type 0) : Type 0 where
  atom : Leaf → Node A
  array : List A → Node A
  object : List (List ℕ × A) → Node A

-- trees of depth d at most
abbrev pub Tree : ℕ → Type 0
Tree zero = ⊥
Tree (suc d) = Node (Tree d)

abbrev pub map_node : {A B : Type 0} → (A → B) → Node A → Node B
map_node f (atom v) = atom v
map_node f (array xs) = array (map f xs)
map_node f (object xs) = object (map (λ x. (x.0, f x.1)) xs)

abbrev pub BytesOf : ℕ → List ℕ → Type 0
BytesOf n s = Bytes s × (length s ≡ n)

-- text is made of bytes
abbrev pub Text : List ℕ → Type 0
Text s = Bytes s × (is_text s ≡ true)

-- from -2^63 to 2^64 - 1
abbrev pub IntegerWithin : ℤ → Type 0
IntegerWithin (pos n) = n < 2 ^ 64
IntegerWithin (negsuc n) = n < 2 ^ 63

-- of 64 bits, two's complement
abbrev pub TicksWithin : ℤ → Type 0
TicksWithin (pos n) = n < 2 ^ 63
TicksWithin (negsuc n) = n < 2 ^ 63

abbrev pub FloatWithin : Float → Type 0
FloatWithin (number b) = (b < 2 ^ 64) × (is_nan64 b ≡ false)
FloatWithin (nan32 b) = (b < 2 ^ 32) × (is_nan32 b ≡ true)
FloatWithin (nan64 b) = (b < 2 ^ 64) × (is_nan64 b ≡ true)

abbrev pub LeafWithin : Leaf → Type 0
LeafWithin null = Unit {0}
LeafWithin (bool b) = Unit {0}
LeafWithin (integer z) = IntegerWithin z
LeafWithin (float x) = FloatWithin x
LeafWithin (binary s) = Bytes s
LeafWithin (string s) = Text s
LeafWithin (object_attachment s) = BytesOf 20 s
LeafWithin (binary_attachment s) = BytesOf 20 s
LeafWithin (hash s) = BytesOf 20 s
LeafWithin (uuid s) = BytesOf 16 s
LeafWithin (object_id s) = BytesOf 12 s
LeafWithin (date_time z) = TicksWithin z
LeafWithin (time_span z) = TicksWithin z
LeafWithin (custom_by_id n s) = (n < 2 ^ 64) × Bytes s
LeafWithin (custom_by_name n s) = Text n × Bytes s

-- non-empty UTF-8
abbrev pub NameWithin : List ℕ → Type 0
NameWithin n = Text n × (is_empty n ≡ false)

abbrev pub NodeWithin : {A : Type 0} → (A → Type 0) → Node A → Type 0
NodeWithin W (atom v) = LeafWithin v
NodeWithin W (array xs) = All W xs
NodeWithin W (object xs) = All (λ x. NameWithin x.0 × W x.1) xs × (twins (map (λ x. x.0) xs) ≡ false)

-- all the limits but that on the encoding's length, which stands with the encoding
abbrev pub Within : (d : ℕ) → Tree d → Type 0
Within zero t = ⊥
Within (suc d) t = NodeWithin (Within d) t
