-- Kinds and type bytes (document 01, "Kinds and payloads").
use Rattle.std.specs.Prelude.{ℕ, ◌+◌, ◌-◌, Bool, true, false, ◌&&◌, ◌||◌, not, cond, List, [], ◌∷◌, eqb, ltb, Option, None, Some}
use Rattle.format.specs.declared.Kind.{Kind}
use Rattle.format.specs.declared.Kind.TheVariants.{Null, Object, UniformObject, Array, UniformArray, Binary, String, IntegerPositive, IntegerNegative}
use Rattle.format.specs.declared.Kind.TheVariants.{Float32, Float64, False, True, ObjectAttachment, BinaryAttachment, Hash, Uuid, DateTime, TimeSpan}
use Rattle.format.specs.declared.Kind.TheVariants.{ObjectId, CustomById, CustomByName}
use Rattle.format.specs.declared.Mark.{Mark}
use Rattle.format.specs.declared.Mark.TheVariants.{OfTop, OfField, OfItem, SharedByFields, SharedByItems}

abbrev pub id : Kind → ℕ
id Null = 0x01
id Object = 0x02
id UniformObject = 0x03
id Array = 0x04
id UniformArray = 0x05
id Binary = 0x06
id String = 0x07
id IntegerPositive = 0x08
id IntegerNegative = 0x09
id Float32 = 0x0a
id Float64 = 0x0b
id False = 0x0c
id True = 0x0d
id ObjectAttachment = 0x0e
id BinaryAttachment = 0x0f
id Hash = 0x10
id Uuid = 0x11
id DateTime = 0x12
id TimeSpan = 0x13
id ObjectId = 0x14
id CustomById = 0x1e
id CustomByName = 0x1f

abbrev pub kinds : List Kind
kinds =
    Null ∷ Object ∷ UniformObject ∷ Array ∷ UniformArray ∷ Binary ∷ String ∷ IntegerPositive ∷ IntegerNegative ∷ Float32 ∷ Float64 ∷ False ∷ True
    ∷ ObjectAttachment ∷ BinaryAttachment ∷ Hash ∷ Uuid ∷ DateTime ∷ TimeSpan ∷ ObjectId ∷ CustomById ∷ CustomByName ∷ []

abbrev pub with_id : ℕ → List Kind → Option Kind
with_id n [] = None
with_id n (k ∷ ks) = cond (eqb n (id k)) (Some k) (with_id n ks)

-- the kind with this ID: every other ID is unknown
unfoldable pub known : ℕ → Option Kind
known n = with_id n kinds

-- what a type byte has above its ID; in the byte that fields share, by document 02, M-102
abbrev pub flags : Mark → ℕ
flags OfTop = 0x00
flags OfField = 0xc0
flags OfItem = 0x40
flags SharedByFields = 0x80
flags SharedByItems = 0x00

abbrev pub type_byte : Mark → Kind → ℕ
type_byte m k = flags m + id k

-- the kind of a type byte: unknown ID, or other flag bits than the place asks
abbrev pub kind_at : Mark → ℕ → Option Kind
kind_at m b = cond (ltb b (flags m)) None (known (b - flags m))

abbrev pub same : Kind → Kind → Bool
same k l = eqb (id k) (id l)

abbrev pub all : {A : Type 0} → (A → Bool) → List A → Bool
all f [] = true
all f (x ∷ xs) = f x && all f xs

abbrev pub any : {A : Type 0} → (A → Bool) → List A → Bool
any f [] = false
any f (x ∷ xs) = f x || any f xs

-- 01, 0C, 0D
unfoldable pub is_bare : Kind → Bool
is_bare k = any (same k) (Null ∷ False ∷ True ∷ [])

-- whether a size stands first in the payload
unfoldable pub has_size : Kind → Bool
has_size k = any (same k) (Object ∷ UniformObject ∷ Array ∷ UniformArray ∷ Binary ∷ String ∷ CustomById ∷ CustomByName ∷ [])

-- one or more fields of one ID
unfoldable pub is_uniform : List Kind → Bool
is_uniform [] = false
is_uniform (k ∷ ks) = all (same k) ks

-- one or more items of one ID other than 01, 0C, 0D
unfoldable pub is_uniform_array : List Kind → Bool
is_uniform_array [] = false
is_uniform_array (k ∷ ks) = not (is_bare k) && all (same k) ks
