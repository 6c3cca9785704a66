-- What the flaws are, told by a layout alone: each by a test of one field and the kinds of the fields in it (document 01, "The mask"). The reader is no part
-- of this; that the flaws it meets are these is proofs/FlawsMet.antt. `long` is about bytes that a layout does not have.
use Rattle.std.specs.Prelude.{ℕ, zero, suc, ◌+◌, ◌^◌, Bool, false, not, ◌&&◌, ◌||◌, cond, List, [], ◌∷◌, ◌++◌, map, ltb, pos, negsuc}
use Rattle.text.specs.Utf8.{is_text}
use Rattle.float.specs.Rule.{holds}
use Rattle.format.specs.declared.Kind.{Kind}
use Rattle.format.specs.declared.Kind.TheVariants as K
use Rattle.format.specs.Kinds.{same, any, is_uniform, is_uniform_array}
use Rattle.format.specs.declared.Flaw.{Flaw}
use Rattle.format.specs.declared.Flaw.TheVariants.{Twin, Blank, Long, Low, Wide, NotUtf8, NotUniform}
use Rattle.format.specs.Names.{is_empty, twins}
use Rattle.format.specs.Tree.{Leaf, null, bool, integer, float, binary, string, object_attachment, binary_attachment, hash, uuid, object_id, date_time, time_span}
use Rattle.format.specs.Tree.{custom_by_id, custom_by_name, Node, atom, array, object, map_node}
use Rattle.format.specs.Reader.{Standing, Layout}
use Rattle.format.specs.Mask.{flaw_value, mode_of, is_asked}
use Rattle.places.specs.Values.{Sort, whole, real, time, other, sort_of, float_bits}

-- ---- every field of a layout

-- the fields in a container
abbrev pub inside : {A : Type 0} → Node A → List A
inside (atom v) = []
inside (array xs) = xs
inside (object xs) = map (λ x. x.1) xs

abbrev pub flat_map : {A B : Type 0} → (A → List B) → List A → List B
flat_map f [] = []
flat_map f (x ∷ xs) = f x ++ flat_map f xs

-- a field by itself: its kind; and its leaf, or the kinds, and names, of the fields in it
abbrev pub Part : Type 0
Part = Kind × Node Kind

abbrev pub part_of : {A : Type 0} → Standing (Node (Standing A)) → Part
part_of x = (x.0, map_node (λ y. y.0) x.1)

-- it and all fields in it, in order
abbrev pub parts : (d : ℕ) → Standing (Layout d) → List Part
parts zero x = []
parts (suc d) x = part_of x ∷ flat_map (parts d) (inside x.1)

-- ---- what a field has

abbrev pub names_of : Node Kind → List (List ℕ)
names_of (atom v) = []
names_of (array ks) = []
names_of (object xs) = map (λ x. x.0) xs

abbrev pub leaf_texts : Leaf → List (List ℕ)
leaf_texts null = []
leaf_texts (bool b) = []
leaf_texts (integer z) = []
leaf_texts (float x) = []
leaf_texts (binary s) = []
leaf_texts (string t) = t ∷ []
leaf_texts (object_attachment s) = []
leaf_texts (binary_attachment s) = []
leaf_texts (hash s) = []
leaf_texts (uuid s) = []
leaf_texts (object_id s) = []
leaf_texts (date_time z) = []
leaf_texts (time_span z) = []
leaf_texts (custom_by_id n s) = []
leaf_texts (custom_by_name n s) = n ∷ []

-- a string, a custom's name, the names of an object's fields
abbrev pub texts_of : Node Kind → List (List ℕ)
texts_of (atom v) = leaf_texts v
texts_of (array ks) = []
texts_of (object xs) = map (λ x. x.0) xs

abbrev pub number_of : Node Kind → Sort
number_of (atom v) = sort_of v
number_of (array ks) = other
number_of (object xs) = other

-- an integer below -2^63: `negsuc m` is minus (m plus 1)
abbrev pub is_low : Sort → Bool
is_low (whole (pos n)) = false
is_low (whole (negsuc m)) = not (ltb m (2 ^ 63))
is_low (real x) = false
is_low (time z) = false
is_low other = false

-- a float that Float32 holds
abbrev pub is_held : Sort → Bool
is_held (whole z) = false
is_held (real x) = holds (float_bits x)
is_held (time z) = false
is_held other = false

-- ---- the flaws

abbrev pub flawed_part : Flaw → Kind → Node Kind → Bool
flawed_part Twin k n = twins (names_of n)
flawed_part Blank k n = any is_empty (names_of n)
flawed_part Long k n = false
flawed_part Low k n = is_low (number_of n)
flawed_part Wide k n = same k K.Float64 && is_held (number_of n)
flawed_part NotUtf8 k n = any (λ t. not (is_text t)) (texts_of n)
flawed_part NotUniform k n = (same k K.Object && is_uniform (inside n)) || (same k K.Array && is_uniform_array (inside n))

abbrev pub flawed : Flaw → (d : ℕ) → Standing (Layout d) → Bool
flawed f d x = any (λ p. flawed_part f p.0 p.1) (parts d x)

-- the sum of those that are so and are asked, each once
abbrev pub sum_where : ℕ → (Flaw → Bool) → List Flaw → ℕ
sum_where modes so [] = 0
sum_where modes so (f ∷ fs) = cond (is_asked modes (mode_of f) && so f) (flaw_value f) 0 + sum_where modes so fs

-- what the layout has; and l, whether a VarUInt was not minimal
abbrev pub shown_flaw : (d : ℕ) → Standing (Layout d) → Bool → Flaw → Bool
shown_flaw d x l Twin = flawed Twin d x
shown_flaw d x l Blank = flawed Blank d x
shown_flaw d x l Long = l
shown_flaw d x l Low = flawed Low d x
shown_flaw d x l Wide = flawed Wide d x
shown_flaw d x l NotUtf8 = flawed NotUtf8 d x
shown_flaw d x l NotUniform = flawed NotUniform d x
