-- Which stopping fault a payload has (document 01, "The mask", "The first one met in document order", and "Order at a field"): all before it is spelled,
-- with any VarUInts (Spells.antt), and then this breaks. Each says of the bytes s, all that remain in the container, that they break with k. The reader is
-- no part of this.
use Rattle.std.specs.Prelude.{ℕ, zero, suc, ◌≤◌, ◌<◌, ◌≡◌, ◌⊎◌, List, [], ◌∷◌, ◌++◌, length}
use Rattle.format.specs.declared.Kind.{Kind}
use Rattle.format.specs.declared.Kind.TheVariants.{Null, Object, UniformObject, Array, UniformArray, Binary, String, IntegerPositive, IntegerNegative}
use Rattle.format.specs.declared.Kind.TheVariants.{Float32, Float64, False, True, ObjectAttachment, BinaryAttachment, Hash, Uuid, DateTime, TimeSpan}
use Rattle.format.specs.declared.Kind.TheVariants.{ObjectId, CustomById, CustomByName}
use Rattle.format.specs.declared.Mark.{Mark}
use Rattle.format.specs.declared.Mark.TheVariants.{OfTop, OfField, OfItem, SharedByFields, SharedByItems}
use Rattle.format.specs.declared.Form.{Form}
use Rattle.format.specs.declared.Form.TheVariants.{Top, Field, Item, SharedField, SharedItem}
use Rattle.format.specs.declared.Stop.{Stop}
use Rattle.format.specs.declared.Stop.TheVariants.{Early, Unknown, TooDeep, TooLong, BadUniform}
use Rattle.format.specs.Limits.{depth_limit, length_limit}
use Rattle.format.specs.Kinds.{type_byte}
use Rattle.format.specs.Reader.{Standing, Named}
use Rattle.spelling.specs.Spells.{any_form, Bare, Run, FrontSpells, Spells}

-- the first thing breaks; or it is spelled, as a, and what stands behind it breaks
abbrev pub OrBehind : {A : Type 0} → (Stop → List ℕ → Type 0) → (A → List ℕ → Type 0) → (A → Stop → List ℕ → Type 0) → Stop → List ℕ → Type 0
OrBehind {A} H S K k s = H k s ⊎ ((a : A) × (u t : List ℕ) × (s ≡ u ++ t) × S a u × K a k t)

-- ---- numbers, sizes and bytes

-- only the beginning of a VarUInt is there
abbrev pub NumberCut : List ℕ → Type 0
NumberCut s = (v : ℕ) × (t : List ℕ) × (1 ≤ length t) × any_form v (s ++ t)

-- fewer than n bytes are there
abbrev pub BytesCut : ℕ → List ℕ → Type 0
BytesCut n s = length s < n

-- a size is cut, or it does not fit: it is over what remains
abbrev pub SizeCut : List ℕ → Type 0
SizeCut s = NumberCut s ⊎ ((n : ℕ) × (u t : List ℕ) × (s ≡ u ++ t) × any_form n u × BytesCut n t)

abbrev pub NumberHalts : Stop → List ℕ → Type 0
NumberHalts k s = (k ≡ Early) × NumberCut s

abbrev pub BytesHalt : ℕ → Stop → List ℕ → Type 0
BytesHalt n k s = (k ≡ Early) × BytesCut n s

-- a size and as many bytes, whatever they are: a name, a text, a binary
abbrev pub TextHalts : Stop → List ℕ → Type 0
TextHalts k s = (k ≡ Early) × SizeCut s

-- the size; or, behind it, the bytes b that it counts
abbrev pub SizedHalts : (Stop → List ℕ → Type 0) → Stop → List ℕ → Type 0
SizedHalts H k s = TextHalts k s ⊎ ((u b r : List ℕ) × (s ≡ u ++ (b ++ r)) × any_form (length b) u × H k b)

-- the count; or, behind it, what is counted
abbrev pub CountedHalts : (ℕ → Stop → List ℕ → Type 0) → Stop → List ℕ → Type 0
CountedHalts H k s = OrBehind NumberHalts any_form H k s

-- ---- before the payload

-- no type byte, or one that no kind has in this place: an unknown ID, or other flag bits
abbrev pub TypeHalts : Mark → Stop → List ℕ → Type 0
TypeHalts m k s = ((k ≡ Early) × (s ≡ [])) ⊎ ((k ≡ Unknown) × (b : ℕ) × (t : List ℕ) × (s ≡ b ∷ t) × ((j : Kind) → b ≡ type_byte m j → ⊥))

-- type byte, then name
abbrev pub FrontHalts : Form → Stop → List ℕ → Type 0
FrontHalts Top k s = TypeHalts OfTop k s
FrontHalts Field k s = TypeHalts OfField k s ⊎ ((j : Kind) × (t : List ℕ) × (s ≡ type_byte OfField j ∷ t) × TextHalts k t)
FrontHalts Item k s = TypeHalts OfItem k s
FrontHalts (SharedField j) k s = TextHalts k s
FrontHalts (SharedItem j) k s = ⊥

-- ---- the payload, by what the fields in it break with, and how those are spelled

module _ {A : Type 0} (H : Form → Stop → List ℕ → Type 0) (S : Form → Named (Standing A) → List ℕ → Type 0) where
  -- some fields, and behind them, where bytes remain, one that breaks
  abbrev pub FieldsHalt : Form → Stop → List ℕ → Type 0
  FieldsHalt g k b = (xs : List (Named (Standing A))) × (u t : List ℕ) × (b ≡ u ++ t) × Run (S g) xs u × (1 ≤ length t) × H g k t

  -- fewer items than are counted, and one more, which breaks, if by its depth then before its bytes are looked for; or all, and bytes left
  abbrev pub ItemsHalt : Form → ℕ → Stop → List ℕ → Type 0
  ItemsHalt g n k b =
      (xs : List (Named (Standing A))) × (u t : List ℕ) × (b ≡ u ++ t) × Run (S g) xs u
      × (((length xs < n) × H g k t) ⊎ ((length xs ≡ n) × (k ≡ Early) × (1 ≤ length t)))

  -- the shared byte, then 2048, then the fields
  abbrev pub SharedFieldsHalt : Stop → List ℕ → Type 0
  SharedFieldsHalt k b =
      TypeHalts SharedByFields k b
      ⊎ ((j : Kind) × (t : List ℕ) × (b ≡ type_byte SharedByFields j ∷ t) × (((k ≡ BadUniform) × (t ≡ [])) ⊎ FieldsHalt (SharedField j) k t))

  abbrev pub SharedItemsHalt : ℕ → Stop → List ℕ → Type 0
  SharedItemsHalt n k b =
      TypeHalts SharedByItems k b
      ⊎ ((j : Kind) × (t : List ℕ) × (b ≡ type_byte SharedByItems j ∷ t)
      × (((k ≡ BadUniform) × ((n ≡ 0) ⊎ Bare j)) ⊎ ((1 ≤ n) × (Bare j → ⊥) × ItemsHalt (SharedItem j) n k t)))

  -- by the kind
  abbrev pub NodeHalts : Kind → Stop → List ℕ → Type 0
  NodeHalts Null k s = ⊥
  NodeHalts Object k s = SizedHalts (FieldsHalt Field) k s
  NodeHalts UniformObject k s = SizedHalts SharedFieldsHalt k s
  NodeHalts Array k s = SizedHalts (CountedHalts (ItemsHalt Item)) k s
  NodeHalts UniformArray k s = SizedHalts (CountedHalts SharedItemsHalt) k s
  NodeHalts Binary k s = TextHalts k s
  NodeHalts String k s = TextHalts k s
  NodeHalts IntegerPositive k s = NumberHalts k s
  NodeHalts IntegerNegative k s = NumberHalts k s
  NodeHalts Float32 k s = BytesHalt 4 k s
  NodeHalts Float64 k s = BytesHalt 8 k s
  NodeHalts False k s = ⊥
  NodeHalts True k s = ⊥
  NodeHalts ObjectAttachment k s = BytesHalt 20 k s
  NodeHalts BinaryAttachment k s = BytesHalt 20 k s
  NodeHalts Hash k s = BytesHalt 20 k s
  NodeHalts Uuid k s = BytesHalt 16 k s
  NodeHalts DateTime k s = BytesHalt 8 k s
  NodeHalts TimeSpan k s = BytesHalt 8 k s
  NodeHalts ObjectId k s = BytesHalt 12 k s
  NodeHalts CustomById k s = SizedHalts NumberHalts k s
  NodeHalts CustomByName k s = SizedHalts TextHalts k s

  -- a field: type byte and name, then the payload
  abbrev pub FieldHalts : Form → Stop → List ℕ → Type 0
  FieldHalts g k s = OrBehind (FrontHalts g) (FrontSpells any_form g) (λ x. NodeHalts x.1) k s

-- ---- a field with d levels left: with none it stands too deep, whatever its bytes are

abbrev pub HaltsAt : (d : ℕ) → Form → Stop → List ℕ → Type 0
HaltsAt zero g k s = k ≡ TooDeep
HaltsAt (suc d) g k s = FieldHalts (HaltsAt d) (Spells any_form d) g k s

-- a payload: the length is tested first
abbrev pub Halts : Stop → List ℕ → Type 0
Halts k s = ((k ≡ TooLong) × (length_limit < length s)) ⊎ ((length s ≤ length_limit) × HaltsAt depth_limit Top k s)
