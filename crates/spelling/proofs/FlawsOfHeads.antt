-- Of one flaw that a layout shows: the readers of a number, a text, a name, a field's front and a payload's head tell what the tests of the layout say.
use Rattle.std.specs.Prelude.{Option, None, Some}
use Prim.Native.Nat.{ℕ, zero, suc, ◌^◌}
use mathlib.Core.Path.{◌≡◌, refl, sym, ap, subst, ◌∙◌}
use mathlib.Core.Bool.{Bool, true, false, not, ◌&&◌, ◌||◌, or-false, or_assoc}
use mathlib.Core.List.{List, [], ◌∷◌}
use lib.ListN.{length, take, drop}
use lib.Dec.{ltb}
use lib.IntN.{pos, negsuc}
use Rattle.number.specs.BigEndian.{from_bytes}
use Rattle.number.proofs.NumberThenLaws.{number_all}
use Rattle.text.specs.Utf8.{is_text}
use Rattle.float.specs.Rule.{holds}
use Rattle.format.specs.declared.Kind.{Kind}
use Rattle.format.specs.declared.Kind.TheVariants.{Null, Object, UniformObject, Array, UniformArray, Binary, String, IntegerPositive, IntegerNegative}
use Rattle.format.specs.declared.Kind.TheVariants.{Float32, Float64, False, True, ObjectAttachment, BinaryAttachment, Hash, Uuid, DateTime, TimeSpan}
use Rattle.format.specs.declared.Kind.TheVariants.{ObjectId, CustomById, CustomByName}
use Rattle.format.specs.declared.Mark.{Mark}
use Rattle.format.specs.declared.Mark.TheVariants.{OfTop, OfField, OfItem, SharedByFields, SharedByItems}
use Rattle.format.specs.declared.Form.{Form}
use Rattle.format.specs.declared.Form.TheVariants.{Top, Field, Item, SharedField, SharedItem}
use Rattle.format.specs.declared.Stop.TheVariants.{Early, BadUniform}
use Rattle.format.specs.Kinds.{kind_at, same, is_bare}
use Rattle.format.specs.declared.Flaw.{Flaw}
use Rattle.format.specs.declared.Flaw.TheVariants.{Blank, Long, Low, Wide, NotUtf8}
use Rattle.format.specs.Parse.{Out, got, bind, make, read_var_uint, fixed, sized, rest, fault}
use Rattle.format.specs.Names.{is_empty, read_text, read_name}
use Rattle.format.specs.Tree.{Leaf, null, bool, integer, float, binary, string, object_attachment, binary_attachment, hash, uuid, object_id, custom_by_id}
use Rattle.format.specs.Tree.{custom_by_name, atom}
use Rattle.format.specs.Payload.{payload, kind_found, read_type, float64, read_negative, read_float64, read_custom_by_id, read_custom_by_name, Head, value, fields_in}
use Rattle.format.specs.Payload.{items_in, shared_fields_of, read_shared_fields, shared_items_of, read_shared_items, read_fields, read_items, front, head}
use Rattle.format.specs.Reader.{is_typed}
use Rattle.places.specs.Values.{sort_of}
use Rattle.spelling.specs.Flawed.{leaf_texts, is_low, is_held, flawed_part}
use Rattle.spelling.proofs.Tells.{is, Tells, Adds, Keeps, tells_got, tells_bind, tells_raise, tells_make, tells_whole, tells_unless, tells_as}
use Rattle.spelling.proofs.Tells.{tells_fixed}
use Rattle.spelling.proofs.FlawedParts.{leaf_none, leaf_text, leaf_low, leaf_wide, name_flawed}

-- only an object's fields have names
abbrev pub is_named : Form → Bool
is_named Top = false
is_named Field = true
is_named Item = false
is_named (SharedField k) = true
is_named (SharedItem k) = false

abbrev pub front_flawed : Flaw → Form → List ℕ × Kind → Bool
front_flawed f g x = is_named g && name_flawed f x.0

-- a leaf's own flaws; or none, and how the fields stand by the kind
abbrev pub HeadTells : Flaw → Kind → Bool → Head → Bool → Type 0
HeadTells f k c (value v) b = b ≡ (c || flawed_part f k (atom v))
HeadTells f k c (fields_in g s) b = (b ≡ c) × (is_named g ≡ true) × (is_typed g ≡ same k Object) × (same k Array ≡ false)
HeadTells f k c (items_in g n s) b = (b ≡ c) × (is_named g ≡ false) × (is_typed g ≡ same k Array) × (same k Object ≡ false)

module _ (f : Flaw) (shows : is f Long ≡ false) where
  tells_number : (c : Bool) (s : List ℕ) → Tells f c (Keeps c) (read_var_uint s)
  unfolding read_var_uint
  tells_number c s = number_all (Tells f c (Keeps c)) (fault Early) _ s (record { says = tt }) λ v n m e.
      tells_raise f c (Keeps c) (not m) Long _ (tells_got f (c || (is f Long && not m)) (Keeps c) v (drop n s) (rw (shows, or-false c)))

  tells_sized : {A : Type 0} (c : Bool) (P : A → Bool → Type 0) (p : List ℕ → Out A) → ((b : List ℕ) → Tells f c P (p b)) → (s : List ℕ)
      → Tells f c P (sized p s)
  tells_sized c P p h s = tells_bind f c (Keeps c) P (read_var_uint s) _ (tells_number c s) λ n r b e.
      tells_unless f b P (ltb (length r) n) Early _
      (tells_whole f b P (p (take n r)) (drop n r) (subst (λ b. Tells f b P (p (take n r))) (sym e) (h (take n r))))

  tells_rest : (c : Bool) (s : List ℕ) → Tells f c (Keeps c) (rest s)
  tells_rest c s = tells_got f c (Keeps c) s [] refl

  tells_text : (c : Bool) (s : List ℕ) → Tells f c (Adds c (λ t. is f NotUtf8 && not (is_text t))) (read_text s)
  tells_text c s = tells_bind f c (Keeps c) _ (sized rest s) _ (tells_sized c (Keeps c) rest (tells_rest c) s) λ t r b e.
      tells_raise f b _ (not (is_text t)) NotUtf8 _
      (tells_got f _ (Adds c (λ t. is f NotUtf8 && not (is_text t))) t r (ap (λ z. z || (is f NotUtf8 && not (is_text t))) e))

  tells_name : (c : Bool) (s : List ℕ) → Tells f c (Adds c (name_flawed f)) (read_name s)
  tells_name c s = tells_bind f c (Adds c (λ t. is f NotUtf8 && not (is_text t))) _ (read_text s) _ (tells_text c s) λ n r b e.
      tells_raise f b _ (is_empty n) Blank _ (tells_got f _ (Adds c (name_flawed f)) n r
      (ap (λ z. z || (is f Blank && is_empty n)) e ∙ or_assoc c (is f NotUtf8 && not (is_text n)) (is f Blank && is_empty n)))

  tells_type : (c : Bool) (m : Mark) (s : List ℕ) → Tells f c (Keeps c) (read_type m s)
  tells_type c m [] = record { says = tt }
  tells_type c m (b ∷ s) = go (kind_at m b)
    where
      go : (k : Option Kind) → Tells f c (Keeps c) (kind_found k s)
      go None = record { says = tt }
      go (Some k) = tells_got f c (Keeps c) k s refl

  pub tells_front : (g : Form) (c : Bool) (s : List ℕ) → Tells f c (Adds c (front_flawed f g)) (front g s)
  unfolding front
  tells_front g c s = go g
    where
      typed : (g : Form) (m : Mark) → is_named g ≡ false → Tells f c (Adds c (front_flawed f g)) (bind (read_type m s) λ k r. got ([], k) [] r)
      typed g m h =
          tells_bind f c (Keeps c) _ (read_type m s) _ (tells_type c m s) λ k r b e.
          tells_got f b (Adds c (front_flawed f g)) ([], k) r (rw h (e ∙ sym (or-false c)))

      name : (g : Form) (c d : Bool) (k : Kind) (r : List ℕ) → d ≡ c → is_named g ≡ true
          → Tells f d (Adds c (front_flawed f g)) (bind (read_name r) λ n q. got (n, k) [] q)
      name g c d k r e h =
          tells_bind f d (Adds d (name_flawed f)) _ (read_name r) _ (tells_name d r) λ n q b i. tells_got f b (Adds c (front_flawed f g)) (n, k) q
          (rw h (i ∙ ap (λ z. z || name_flawed f n) e))

      go : (g : Form) → Tells f c (Adds c (front_flawed f g)) (front g s)
      go Top = typed Top OfTop refl
      go Field = tells_bind f c (Keeps c) _ (read_type OfField s) _ (tells_type c OfField s) λ k r b e. name Field c b k r e refl
      go Item = typed Item OfItem refl
      go (SharedField k) = name (SharedField k) c c k s refl refl
      go (SharedItem k) = tells_got f c (Adds c (front_flawed f (SharedItem k))) ([], k) s (sym (or-false c))

  -- ---- the head

  -- a leaf with no flaw of its own
  quiet : {A : Type 0} (k : Kind) (c : Bool) (g : A → Leaf) (o : Out A) → ((a : A) → leaf_texts (g a) ≡ []) → ((a : A) → is_low (sort_of (g a)) ≡ false)
      → ((a : A) → (same k Float64 && is_held (sort_of (g a))) ≡ false)
      → Tells f c (Keeps c) o → Tells f c (HeadTells f k c) (make value (make g o))
  quiet k c g o t l w h = tells_make f c (HeadTells f k c) value (make g o) (tells_make f c _ g o
      (tells_as f c (Keeps c) (λ a b. b ≡ (c || flawed_part f k (atom (g a)))) o (λ a b e. rw (leaf_none f k (g a) (t a) (l a) (w a), or-false c) e) h))

  bare : (k : Kind) (c : Bool) (v : Leaf) (s : List ℕ) → leaf_texts v ≡ [] → is_low (sort_of v) ≡ false → (same k Float64 && is_held (sort_of v)) ≡ false
      → Tells f c (HeadTells f k c) (make value (got v [] s))
  bare k c v s t l w = tells_make f c (HeadTells f k c) value (got v [] s) (tells_got f c _ v s (rw (leaf_none f k v t l w) (sym (or-false c))))

  bytes : (k : Kind) (c : Bool) (n : ℕ) (g : List ℕ → Leaf) (s : List ℕ) → ((a : List ℕ) → leaf_texts (g a) ≡ [])
      → ((a : List ℕ) → is_low (sort_of (g a)) ≡ false) → ((a : List ℕ) → (same k Float64 && is_held (sort_of (g a))) ≡ false)
      → Tells f c (HeadTells f k c) (make value (make g (fixed n s)))
  bytes k c n g s t l w = quiet k c g (fixed n s) t l w (tells_fixed f c n s)

  negative_tells : (c : Bool) (s : List ℕ) → Tells f c (HeadTells f IntegerNegative c) (make value (read_negative s))
  negative_tells c s =
      tells_make f c (HeadTells f IntegerNegative c) value (read_negative s) (tells_bind f c (Keeps c) _ (read_var_uint s) _ (tells_number c s) λ m r b e.
      tells_raise f b _ (not (ltb m (2 ^ 63))) Low _
      (tells_got f _ (λ v b. HeadTells f IntegerNegative c (value v) b) (integer (negsuc m)) r (rw (leaf_low f m, e))))

  float64_tells : (c : Bool) (s : List ℕ) → Tells f c (HeadTells f Float64 c) (make value (read_float64 s))
  float64_tells c s = tells_make f c (HeadTells f Float64 c) value (read_float64 s) (tells_bind f c (Keeps c) _ (fixed 8 s) _ (tells_fixed f c 8 s) λ x r b e.
      tells_raise f b _ (holds (from_bytes x)) Wide _
      (tells_got f _ (λ v b. HeadTells f Float64 c (value v) b) (float (float64 (from_bytes x))) r (rw (leaf_wide f (from_bytes x), e))))

  string_tells : (c : Bool) (s : List ℕ) → Tells f c (HeadTells f String c) (make value (make string (read_text s)))
  string_tells c s = tells_make f c (HeadTells f String c) value (make string (read_text s)) (tells_make f c _ string (read_text s)
      (tells_as f c (Adds c (λ t. is f NotUtf8 && not (is_text t))) _ (read_text s)
      (λ t b e. rw (leaf_text f String (string t) t refl refl refl) e) (tells_text c s)))

  by_id_tells : (c : Bool) (s : List ℕ) → Tells f c (HeadTells f CustomById c) (make value (sized read_custom_by_id s))
  by_id_tells c s =
      tells_make f c (HeadTells f CustomById c) value (sized read_custom_by_id s)
      (tells_sized c _ read_custom_by_id (λ b. tells_bind f c (Keeps c) _ (read_var_uint b) _ (tells_number c b) λ n r d e.
      tells_make f d _ (custom_by_id n) (rest r) (tells_got f d _ r [] (rw (leaf_none f CustomById (custom_by_id n r) refl refl refl, or-false c) e))) s)

  by_name_tells : (c : Bool) (s : List ℕ) → Tells f c (HeadTells f CustomByName c) (make value (sized read_custom_by_name s))
  by_name_tells c s =
      tells_make f c (HeadTells f CustomByName c) value (sized read_custom_by_name s)
      (tells_sized c _ read_custom_by_name (λ b. tells_bind f c (Adds c (λ t. is f NotUtf8 && not (is_text t))) _ (read_text b) _ (tells_text c b) λ n r d e.
      tells_make f d _ (custom_by_name n) (rest r) (tells_got f d _ r [] (rw (leaf_text f CustomByName (custom_by_name n r) n refl refl refl) e))) s)

  shared_fields_tells : (c : Bool) (b : List ℕ) → Tells f c (HeadTells f UniformObject c) (read_shared_fields b)
  shared_fields_tells c [] = record { says = tt }
  shared_fields_tells c (b ∷ s) = go (kind_at SharedByFields b) s
    where
      go : (k : Option Kind) (s : List ℕ) → Tells f c (HeadTells f UniformObject c) (shared_fields_of k s)
      go None s = record { says = tt }
      go (Some k) [] = record { says = tt }
      go (Some k) (b ∷ s) = tells_got f c (HeadTells f UniformObject c) (fields_in (SharedField k) (b ∷ s)) [] (refl, refl, refl, refl)

  shared_items_tells : (c d : Bool) → d ≡ c → (n : ℕ) (b : List ℕ) → Tells f d (HeadTells f UniformArray c) (read_shared_items n b)
  shared_items_tells c d e n [] = record { says = tt }
  shared_items_tells c d e n (b ∷ s) = go n (kind_at SharedByItems b)
    where
      go : (n : ℕ) (k : Option Kind) → Tells f d (HeadTells f UniformArray c) (shared_items_of n k s)
      go n None = record { says = tt }
      go zero (Some k) = record { says = tt }
      go (suc n) (Some k) =
          tells_unless f d _ (is_bare k) BadUniform _ (tells_got f d (HeadTells f UniformArray c) (items_in (SharedItem k) (suc n) s) [] (e, refl, refl, refl))

  pub tells_head : (k : Kind) (c : Bool) (s : List ℕ) → Tells f c (HeadTells f k c) (head k s)
  unfolding head payload
  tells_head = elim [
    | Null ↦ λ c s. bare Null c null s refl refl refl
    | Object ↦ λ c s.
        tells_sized c (HeadTells f Object c) read_fields (λ b. tells_got f c (HeadTells f Object c) (fields_in Field b) [] (refl, refl, refl, refl)) s
    | UniformObject ↦ λ c s. tells_sized c (HeadTells f UniformObject c) read_shared_fields (shared_fields_tells c) s
    | Array ↦ λ c s. tells_sized c (HeadTells f Array c) read_items
        (λ b. tells_bind f c (Keeps c) _ (read_var_uint b) _ (tells_number c b) λ n r d e. tells_got f d (HeadTells f Array c) (items_in Item n r) []
        (e, refl, refl, refl)) s
    | UniformArray ↦ λ c s. tells_sized c (HeadTells f UniformArray c) (λ b. bind (read_var_uint b) read_shared_items)
        (λ b. tells_bind f c (Keeps c) _ (read_var_uint b) _ (tells_number c b) λ n r d e. shared_items_tells c d e n r) s
    | Binary ↦ λ c s. quiet Binary c binary (sized rest s) (λ a. refl) (λ a. refl) (λ a. refl) (tells_sized c (Keeps c) rest (tells_rest c) s)
    | String ↦ string_tells
    | IntegerPositive ↦ λ c s. quiet IntegerPositive c (λ m. integer (pos m)) (read_var_uint s) (λ a. refl) (λ a. refl) (λ a. refl) (tells_number c s)
    | IntegerNegative ↦ negative_tells
    | Float32 ↦ λ c s. bytes Float32 c 4 _ s (λ a. refl) (λ a. refl) (λ a. refl)
    | Float64 ↦ float64_tells
    | False ↦ λ c s. bare False c (bool false) s refl refl refl
    | True ↦ λ c s. bare True c (bool true) s refl refl refl
    | ObjectAttachment ↦ λ c s. bytes ObjectAttachment c 20 object_attachment s (λ a. refl) (λ a. refl) (λ a. refl)
    | BinaryAttachment ↦ λ c s. bytes BinaryAttachment c 20 binary_attachment s (λ a. refl) (λ a. refl) (λ a. refl)
    | Hash ↦ λ c s. bytes Hash c 20 hash s (λ a. refl) (λ a. refl) (λ a. refl)
    | Uuid ↦ λ c s. bytes Uuid c 16 uuid s (λ a. refl) (λ a. refl) (λ a. refl)
    | DateTime ↦ λ c s. bytes DateTime c 8 _ s (λ a. refl) (λ a. refl) (λ a. refl)
    | TimeSpan ↦ λ c s. bytes TimeSpan c 8 _ s (λ a. refl) (λ a. refl) (λ a. refl)
    | ObjectId ↦ λ c s. bytes ObjectId c 12 object_id s (λ a. refl) (λ a. refl) (λ a. refl)
    | CustomById ↦ by_id_tells
    | CustomByName ↦ by_name_tells
  ]
