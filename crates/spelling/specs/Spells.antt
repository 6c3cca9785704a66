-- Every spelling of a layout, as a grammar (document 01, "Kinds and payloads"): which bytes stand for it. The reader is no part of this. Num says which
-- bytes stand for a number: any VarUInt of it, or the minimal one only.
use Rattle.std.specs.Prelude.{ℕ, zero, suc, ◌^◌, ◌≤◌, ◌<◌, ◌≡◌, ◌⊎◌, true, false, List, [], ◌∷◌, ◌++◌, map, length, get_or, pos, negsuc}
use Rattle.number.specs.BigEndian.{from_bytes}
use Rattle.number.specs.Signed.{from_twos}
use Rattle.number.specs.VarUInt.{bounds, form}
use Rattle.format.specs.declared.Kind.{Kind}
use Rattle.format.specs.declared.Kind.TheVariants.{Null, Object, UniformObject, Array, UniformArray, Binary, String, IntegerPositive, IntegerNegative}
use Rattle.format.specs.declared.Kind.TheVariants.{Float32, Float64, False, True, ObjectAttachment, BinaryAttachment, Hash, Uuid, DateTime, TimeSpan}
use Rattle.format.specs.declared.Kind.TheVariants.{ObjectId, CustomById, CustomByName}
use Rattle.format.specs.declared.Mark.TheVariants.{OfTop, OfField, OfItem, SharedByFields, SharedByItems}
use Rattle.format.specs.declared.Form.{Form}
use Rattle.format.specs.declared.Form.TheVariants.{Top, Field, Item, SharedField, SharedItem}
use Rattle.format.specs.Kinds.{type_byte}
use Rattle.format.specs.Tree.{null, bool, integer, float, binary, string, object_attachment, binary_attachment, hash, uuid, object_id, date_time, time_span}
use Rattle.format.specs.Tree.{custom_by_id, custom_by_name, Node, atom, array, object}
use Rattle.format.specs.Payload.{float32, float64}
use Rattle.format.specs.Reader.{Standing, Named, Layout}

-- a VarUInt of v: n bytes behind the first, n from 0 to 8, which hold it
abbrev pub any_form : ℕ → List ℕ → Type 0
any_form v u = (n : ℕ) × (n ≤ 8) × (v < get_or bounds n (2 ^ 64)) × (u ≡ form n v)

-- "It is minimal if no shorter form holds the value"
abbrev pub minimal_form : ℕ → List ℕ → Type 0
minimal_form v u = any_form v u × ((t : List ℕ) → any_form v t → length u ≤ length t)

-- 01, 0C, 0D
abbrev pub Bare : Kind → Type 0
Bare j = (j ≡ Null) ⊎ ((j ≡ False) ⊎ (j ≡ True))

-- ---- how things are spelled: S a w says that the bytes w spell a

-- all the bytes; n of them
abbrev pub All-of : List ℕ → List ℕ → Type 0
All-of a w = a ≡ w

abbrev pub Exactly : ℕ → List ℕ → List ℕ → Type 0
Exactly n a w = (a ≡ w) × (length w ≡ n)

abbrev pub Made : {A B : Type 0} → (A → B) → (A → List ℕ → Type 0) → B → List ℕ → Type 0
Made {A} g S b w = (a : A) × (b ≡ g a) × S a w

-- a thing, and behind it another
abbrev pub Behind : {A B : Type 0} → (A → List ℕ → Type 0) → (A → B → List ℕ → Type 0) → B → List ℕ → Type 0
Behind {A} S T b w = (a : A) × (u t : List ℕ) × (w ≡ u ++ t) × S a u × T a b t

-- one behind the other
abbrev pub Run : {A : Type 0} → (A → List ℕ → Type 0) → List A → List ℕ → Type 0
Run S [] w = w ≡ []
Run S (x ∷ xs) w = (u t : List ℕ) × (w ≡ u ++ t) × S x u × Run S xs t

module _ (Num : ℕ → List ℕ → Type 0) where
  -- behind its size
  abbrev pub Sized : {A : Type 0} → (A → List ℕ → Type 0) → A → List ℕ → Type 0
  Sized S a w = (u b : List ℕ) × (w ≡ u ++ b) × Num (length b) u × S a b

  -- type byte and name, as the place asks
  abbrev pub FrontSpells : Form → List ℕ × Kind → List ℕ → Type 0
  FrontSpells Top x w = (x.0 ≡ []) × (w ≡ type_byte OfTop x.1 ∷ [])
  FrontSpells Field x w = (t : List ℕ) × (w ≡ type_byte OfField x.1 ∷ t) × Sized All-of x.0 t
  FrontSpells Item x w = (x.0 ≡ []) × (w ≡ type_byte OfItem x.1 ∷ [])
  FrontSpells (SharedField k) x w = (x.1 ≡ k) × Sized All-of x.0 w
  FrontSpells (SharedItem k) x w = (x ≡ ([], k)) × (w ≡ [])

  module _ {A : Type 0} (S : Form → Named (Standing A) → List ℕ → Type 0) where
    -- fields that fill the part; items, as many as are counted
    abbrev pub FieldsSpell : Form → Node (Standing A) → List ℕ → Type 0
    FieldsSpell g n w = (xs : List (Named (Standing A))) × (n ≡ object xs) × Run (S g) xs w

    abbrev pub ItemsSpell : Form → ℕ → Node (Standing A) → List ℕ → Type 0
    ItemsSpell g c n w = (xs : List (Named (Standing A))) × (n ≡ array (map (λ x. x.1) xs)) × (length xs ≡ c) × Run (S g) xs w

    -- 03: the shared byte, and one field or more; 05, behind its count: the shared byte, of no 01, 0C or 0D, and one item or more
    abbrev pub SharedFieldsSpell : Node (Standing A) → List ℕ → Type 0
    SharedFieldsSpell n b = (j : Kind) × (w : List ℕ) × (b ≡ type_byte SharedByFields j ∷ w) × (1 ≤ length w) × FieldsSpell (SharedField j) n w

    abbrev pub SharedItemsSpell : ℕ → Node (Standing A) → List ℕ → Type 0
    SharedItemsSpell c n b = (j : Kind) × (w : List ℕ) × (b ≡ type_byte SharedByItems j ∷ w) × (1 ≤ c) × (Bare j → ⊥) × ItemsSpell (SharedItem j) c n w

    -- the table of kinds and payloads. Of 09 the number is M, and `negsuc M` is minus (M plus 1)
    abbrev pub NodeSpells : Kind → Node (Standing A) → List ℕ → Type 0
    NodeSpells Null n w = (n ≡ atom null) × (w ≡ [])
    NodeSpells Object n w = Sized (FieldsSpell Field) n w
    NodeSpells UniformObject n w = Sized SharedFieldsSpell n w
    NodeSpells Array n w = Sized (Behind Num (ItemsSpell Item)) n w
    NodeSpells UniformArray n w = Sized (Behind Num SharedItemsSpell) n w
    NodeSpells Binary n w = Made (λ b. atom (binary b)) (Sized All-of) n w
    NodeSpells String n w = Made (λ b. atom (string b)) (Sized All-of) n w
    NodeSpells IntegerPositive n w = Made (λ m. atom (integer (pos m))) Num n w
    NodeSpells IntegerNegative n w = Made (λ m. atom (integer (negsuc m))) Num n w
    NodeSpells Float32 n w = Made (λ b. atom (float (float32 (from_bytes b)))) (Exactly 4) n w
    NodeSpells Float64 n w = Made (λ b. atom (float (float64 (from_bytes b)))) (Exactly 8) n w
    NodeSpells False n w = (n ≡ atom (bool false)) × (w ≡ [])
    NodeSpells True n w = (n ≡ atom (bool true)) × (w ≡ [])
    NodeSpells ObjectAttachment n w = Made (λ b. atom (object_attachment b)) (Exactly 20) n w
    NodeSpells BinaryAttachment n w = Made (λ b. atom (binary_attachment b)) (Exactly 20) n w
    NodeSpells Hash n w = Made (λ b. atom (hash b)) (Exactly 20) n w
    NodeSpells Uuid n w = Made (λ b. atom (uuid b)) (Exactly 16) n w
    NodeSpells DateTime n w = Made (λ b. atom (date_time (from_twos (from_bytes b)))) (Exactly 8) n w
    NodeSpells TimeSpan n w = Made (λ b. atom (time_span (from_twos (from_bytes b)))) (Exactly 8) n w
    NodeSpells ObjectId n w = Made (λ b. atom (object_id b)) (Exactly 12) n w
    NodeSpells CustomById n w = Sized (Behind Num (λ i. Made (λ b. atom (custom_by_id i b)) All-of)) n w
    NodeSpells CustomByName n w = Sized (Behind (Sized All-of) (λ t. Made (λ b. atom (custom_by_name t b)) All-of)) n w

    -- a field: type byte and name, and the payload
    abbrev pub FieldSpells : Form → Named (Standing (Node (Standing A))) → List ℕ → Type 0
    FieldSpells g x w = (u t : List ℕ) × (w ≡ u ++ t) × FrontSpells g (x.0, x.1.0) u × NodeSpells x.1.0 x.1.1 t

  -- a field with at most d levels, itself one of them
  abbrev pub Spells : (d : ℕ) → Form → Named (Standing (Layout d)) → List ℕ → Type 0
  Spells zero g x w = ⊥
  Spells (suc d) g x w = FieldSpells (Spells d) g x w
