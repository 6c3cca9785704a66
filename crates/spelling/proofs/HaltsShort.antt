-- No field halts with 8: that fault is told by the length alone (specs/Halts.antt).
use Prim.Native.Nat.{ℕ, zero, suc, ◌≤◌, ◌<◌}
use native.Mathlib.Omega.{arith}
use mathlib.Core.Path.{◌≡◌}
use mathlib.Core.Logic.{◌⊎◌, inl, inr}
use mathlib.Core.List.{List, []}
use lib.ListN.{length}
use Rattle.format.specs.declared.Kind.{Kind}
use Rattle.format.specs.declared.Kind.TheVariants.{Null, Object, UniformObject, Array, UniformArray, Binary, String, IntegerPositive, IntegerNegative}
use Rattle.format.specs.declared.Kind.TheVariants.{Float32, Float64, False, True, ObjectAttachment, BinaryAttachment, Hash, Uuid, DateTime, TimeSpan}
use Rattle.format.specs.declared.Kind.TheVariants.{ObjectId, CustomById, CustomByName}
use Rattle.format.specs.declared.Mark.{Mark}
use Rattle.format.specs.declared.Form.{Form}
use Rattle.format.specs.declared.Form.TheVariants.{Top, Field, Item, SharedField, SharedItem}
use Rattle.format.specs.declared.Stop.{Stop}
use Rattle.format.specs.declared.Stop.TheVariants.{Early, Unknown, TooLong, BadUniform}
use Rattle.format.specs.Reader.{Standing, Named}
use Rattle.spelling.specs.Spells.{any_form, Bare, Spells}
use Rattle.spelling.specs.Halts.{NumberHalts, TextHalts, SizedHalts, CountedHalts, TypeHalts, FrontHalts, FieldsHalt, ItemsHalt, SharedFieldsHalt}
use Rattle.spelling.specs.Halts.{SharedItemsHalt, NodeHalts, HaltsAt}
use Rattle.format.specs.declared.Mark.TheVariants.{OfTop, OfField, OfItem, SharedByFields, SharedByItems}

late : TooLong ≡ Early → ⊥
late e = let z : ◌≡◌ {A = ℕ} 0 1 = cc in omega arith

type_short : (m : Mark) (s : List ℕ) → TypeHalts m TooLong s → ⊥
type_short m s (inl i) = late i.0
type_short m s (inr i) = let e : TooLong ≡ Unknown = i.0 in let z : ◌≡◌ {A = ℕ} 0 1 = cc in omega arith

front_short : (g : Form) (s : List ℕ) → FrontHalts g TooLong s → ⊥
front_short Top s i = type_short OfTop s i
front_short Field s (inl i) = type_short OfField s i
front_short Field s (inr i) = late i.3.0
front_short Item s i = type_short OfItem s i
front_short (SharedField j) s i = late i.0
front_short (SharedItem j) s i = i

sized_short : (H : Stop → List ℕ → Type 0) → ((b : List ℕ) → H TooLong b → ⊥) → (s : List ℕ) → SizedHalts H TooLong s → ⊥
sized_short H f s (inl i) = late i.0
sized_short H f s (inr i) = f i.1 i.5

counted_short : (H : ℕ → Stop → List ℕ → Type 0) → ((n : ℕ) (b : List ℕ) → H n TooLong b → ⊥) → (s : List ℕ) → CountedHalts H TooLong s → ⊥
counted_short H f s (inl i) = late i.0
counted_short H f s (inr i) = f i.0 i.2 i.5

module _ {A : Type 0} (H : Form → Stop → List ℕ → Type 0) (S : Form → Named (Standing A) → List ℕ → Type 0)
    (short : (g : Form) (s : List ℕ) → H g TooLong s → ⊥) where
  items_short : (g : Form) (n : ℕ) (b : List ℕ) → ItemsHalt H S g n TooLong b → ⊥
  items_short g n b i = go i.2 (length i.0) i.5
    where
      go : (t : List ℕ) (m : ℕ) → ((m < n) × H g TooLong t) ⊎ ((m ≡ n) × (TooLong ≡ Early) × (1 ≤ length t)) → ⊥
      go t m (inl j) = short g t j.1
      go t m (inr j) = late j.1

  bad : TooLong ≡ BadUniform → ⊥
  bad e = let z : ◌≡◌ {A = ℕ} 0 1 = cc in omega arith

  shared_fields_short : (b : List ℕ) → SharedFieldsHalt H S TooLong b → ⊥
  shared_fields_short b (inl i) = type_short SharedByFields b i
  shared_fields_short b (inr i) = go i.0 i.1 i.3
    where
      go : (j : Kind) (t : List ℕ) → ((TooLong ≡ BadUniform) × (t ≡ [])) ⊎ FieldsHalt H S (SharedField j) TooLong t → ⊥
      go j t (inl e) = bad e.0
      go j t (inr e) = short (SharedField j) e.2 e.6

  shared_items_short : (n : ℕ) (b : List ℕ) → SharedItemsHalt H S n TooLong b → ⊥
  shared_items_short n b (inl i) = type_short SharedByItems b i
  shared_items_short n b (inr i) = go i.0 i.1 i.3
    where
      go : (j : Kind) (t : List ℕ)
          → ((TooLong ≡ BadUniform) × ((n ≡ 0) ⊎ Bare j)) ⊎ ((1 ≤ n) × (Bare j → ⊥) × ItemsHalt H S (SharedItem j) n TooLong t) → ⊥
      go j t (inl e) = bad e.0
      go j t (inr e) = items_short (SharedItem j) n t e.2

  node_short : (k : Kind) (s : List ℕ) → NodeHalts H S k TooLong s → ⊥
  node_short = elim [
    | Null ↦ λ s i. i
    | Object ↦ sized_short (FieldsHalt H S Field) (λ b i. short Field i.2 i.6)
    | UniformObject ↦ sized_short (SharedFieldsHalt H S) shared_fields_short
    | Array ↦ sized_short (CountedHalts (ItemsHalt H S Item)) (counted_short (ItemsHalt H S Item) (items_short Item))
    | UniformArray ↦ sized_short (CountedHalts (SharedItemsHalt H S)) (counted_short (SharedItemsHalt H S) shared_items_short)
    | Binary ↦ λ s i. late i.0
    | String ↦ λ s i. late i.0
    | IntegerPositive ↦ λ s i. late i.0
    | IntegerNegative ↦ λ s i. late i.0
    | Float32 ↦ λ s i. late i.0
    | Float64 ↦ λ s i. late i.0
    | False ↦ λ s i. i
    | True ↦ λ s i. i
    | ObjectAttachment ↦ λ s i. late i.0
    | BinaryAttachment ↦ λ s i. late i.0
    | Hash ↦ λ s i. late i.0
    | Uuid ↦ λ s i. late i.0
    | DateTime ↦ λ s i. late i.0
    | TimeSpan ↦ λ s i. late i.0
    | ObjectId ↦ λ s i. late i.0
    | CustomById ↦ sized_short NumberHalts (λ b i. late i.0)
    | CustomByName ↦ sized_short TextHalts (λ b i. late i.0)
  ]

pub field_short : (d : ℕ) (g : Form) (s : List ℕ) → HaltsAt d g TooLong s → ⊥
field_short zero g s e = let z : ◌≡◌ {A = ℕ} 0 1 = cc in omega arith
field_short (suc d) g s (inl i) = front_short g s i
field_short (suc d) g s (inr i) = node_short (HaltsAt d) (Spells any_form d) (field_short d) i.0.1 i.2 i.5
