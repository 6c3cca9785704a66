-- What the calls show of a payload: the words in which proofs/Walk.antt states it (document 01, "Places, views and values"). A layout is the tree with
-- each field's kind as it stands (Reader.antt); `Shown` says what the calls answer at the place of each of its fields,
-- and `ShownPayload` ties it to a payload.
use Rattle.std.specs.Prelude.{ℕ, zero, suc, ◌+◌, ◌-◌, ◌^◌, ◌≤◌, ◌<◌, ◌≡◌, ◌⊎◌, true, false, cond, List, [], ◌∷◌, ◌++◌, map, length, ℤ, pos, negsuc}
use Rattle.std.specs.Prelude.{Option, None, Some, Result, Err, Ok}
use Rattle.std.proofs.Math.Option.{some}
use Rattle.std.proofs.Math.Seq.{slice}
use Rattle.number.specs.BigEndian.{All, from_bytes}
use Rattle.number.specs.Signed.{from_twos}
use Rattle.text.specs.Equal.{equal}
use Rattle.float.specs.Width.{widen, of_integer}
use Rattle.format.specs.declared.Kind.{Kind}
use Rattle.format.specs.declared.Kind.TheVariants.{Null, Object, UniformObject, Array, UniformArray, Binary, String, IntegerPositive, IntegerNegative}
use Rattle.format.specs.declared.Kind.TheVariants.{Float32, Float64, False, True, ObjectAttachment, BinaryAttachment, Hash, Uuid, DateTime, TimeSpan}
use Rattle.format.specs.declared.Kind.TheVariants.{ObjectId, CustomById, CustomByName}
use Rattle.format.specs.declared.Mark.TheVariants.{OfField, OfItem, SharedByFields, SharedByItems}
use Rattle.format.specs.declared.Form.TheVariants as Fo
use Rattle.places.specs.declared.Place.{Place}
use Rattle.format.specs.Limits.{depth_limit}
use Rattle.format.specs.Kinds.{id, type_byte}
use Rattle.format.specs.declared.Flaw.{Flaw}
use Rattle.format.specs.Parse.{Out, got, read_var_uint}
use Rattle.format.specs.Tree.{Float, number, nan32, nan64, Leaf, null, bool, integer, float, binary, string, object_attachment, binary_attachment, hash, uuid}
use Rattle.format.specs.Tree.{object_id, date_time, time_span, custom_by_id, custom_by_name, Node, atom, array, object}
use Rattle.format.specs.Payload.{Payload, leaf, fields, shared_fields, items, shared_items, payload}
use Rattle.format.specs.Reader.{Standing, Named, Layout, tree, kinds_in, read, tree_of}
use Rattle.places.specs.Places.{checked, top, step, name_view, view, lookup}
use Rattle.places.specs.Contents.{contents_start}
use Rattle.places.specs.Values.{Sort, whole, real, time, other, sort_of, float_bits, double, signed, unsigned, ticks}
use Rattle.places.specs.declared.PlaceError.TheVariants as P
use Rattle.places.specs.Made.{step_met}
use Rattle.places.specs.declared.PlaceError.{PlaceError}
use Rattle.places.specs.declared.ValueError.TheVariants as V

-- ---- a leaf

-- the bytes b are read as a, and nothing is left
abbrev pub Reads : {A : Type 0} → (List ℕ → Out A) → List ℕ → A → Type 0
Reads p b a = (fs : List Flaw) × (p b ≡ got a fs [])

-- a float's kind, and its pattern as it is stored
abbrev pub FloatViewed : Kind → Float → List ℕ → Type 0
FloatViewed k (number n) b = ((k ≡ Float32) × (length b ≡ 4) × (widen (from_bytes b) ≡ n)) ⊎ ((k ≡ Float64) × (length b ≡ 8) × (from_bytes b ≡ n))
FloatViewed k (nan32 n) b = (k ≡ Float32) × (length b ≡ 4) × (from_bytes b ≡ n)
FloatViewed k (nan64 n) b = (k ≡ Float64) × (length b ≡ 8) × (from_bytes b ≡ n)

-- a leaf's kind, and its view b. Null and Bool are told by the kind; an integer is its VarUInt, of kind 09 minus (m plus 1), which is `negsuc m`; of a custom
-- there is its id, or its name behind the name's length, and the rest
abbrev pub Viewed : Kind → Leaf → List ℕ → Type 0
Viewed k null b = (k ≡ Null) × (b ≡ [])
Viewed k (bool true) b = (k ≡ True) × (b ≡ [])
Viewed k (bool false) b = (k ≡ False) × (b ≡ [])
Viewed k (integer (pos n)) b = (k ≡ IntegerPositive) × Reads read_var_uint b n
Viewed k (integer (negsuc m)) b = (k ≡ IntegerNegative) × Reads read_var_uint b m
Viewed k (float x) b = FloatViewed k x b
Viewed k (binary t) b = (k ≡ Binary) × (b ≡ t)
Viewed k (string t) b = (k ≡ String) × (b ≡ t)
Viewed k (object_attachment t) b = (k ≡ ObjectAttachment) × (b ≡ t)
Viewed k (binary_attachment t) b = (k ≡ BinaryAttachment) × (b ≡ t)
Viewed k (hash t) b = (k ≡ Hash) × (b ≡ t)
Viewed k (uuid t) b = (k ≡ Uuid) × (b ≡ t)
Viewed k (object_id t) b = (k ≡ ObjectId) × (b ≡ t)
Viewed k (date_time z) b = (k ≡ DateTime) × (length b ≡ 8) × (from_twos (from_bytes b) ≡ z)
Viewed k (time_span z) b = (k ≡ TimeSpan) × (length b ≡ 8) × (from_twos (from_bytes b) ≡ z)
Viewed k (custom_by_id n t) b = (k ≡ CustomById) × (w : List ℕ) × Reads read_var_uint w n × (b ≡ w ++ t)
Viewed k (custom_by_name n t) b = (k ≡ CustomByName) × (w : List ℕ) × Reads read_var_uint w (length n) × (b ≡ w ++ (n ++ t))

abbrev pub NoInteger : List ℕ → Place → Type 0
NoInteger s p = (signed s p ≡ Err V.WrongKind) × (unsigned s p ≡ Err V.WrongKind)

-- an integer signed, unsigned and as a double
abbrev pub IntegerAnswered : ℤ → List ℕ → Place → Type 0
IntegerAnswered (pos n) s p =
    (n < 2 ^ 63 → signed s p ≡ Ok (pos n)) × (2 ^ 63 ≤ n → signed s p ≡ Err V.OutOfRange)
    × (unsigned s p ≡ Ok n)
    × (n ≤ 2 ^ 53 → double s p ≡ Ok (of_integer (pos n))) × (2 ^ 53 < n → double s p ≡ Err V.OutOfRange)
IntegerAnswered (negsuc m) s p =
    (m < 2 ^ 63 → signed s p ≡ Ok (negsuc m)) × (2 ^ 63 ≤ m → signed s p ≡ Err V.OutOfRange)
    × (unsigned s p ≡ Err V.OutOfRange)
    × (m < 2 ^ 53 → double s p ≡ Ok (of_integer (negsuc m))) × (2 ^ 53 ≤ m → double s p ≡ Err V.OutOfRange)

-- what the value calls answer, by what the leaf is to them
abbrev pub Answered : Sort → List ℕ → Place → Type 0
Answered (whole z) s p = IntegerAnswered z s p × (ticks s p ≡ Err P.WrongKind)
Answered (real x) s p = NoInteger s p × (double s p ≡ Ok (float_bits x)) × (ticks s p ≡ Err P.WrongKind)
Answered (time z) s p = NoInteger s p × (double s p ≡ Err V.WrongKind) × (ticks s p ≡ Ok z)
Answered other s p = NoInteger s p × (double s p ≡ Err V.WrongKind) × (ticks s p ≡ Err P.WrongKind)

-- kind and view, values, and that it has no fields
pub record ShownLeaf (s : List ℕ) (k : Kind) (p : Place) (v : Leaf) : Type 0 where
  pub viewed : Viewed k v (view s p)
  pub answered : Answered (sort_of v) s p
  pub no_step : (l : Option Place) → step s p l ≡ Err P.WrongKind
  pub no_lookup : (m : List ℕ) → lookup s p m ≡ Err P.WrongKind

-- ---- the fields of a container

-- all that stands before the contents, which have e bytes, by how the fields stand: the size of all that follows it, the count of the fields, whose kinds
-- are ks, and the byte that they share
abbrev pub Opens : Payload → List Kind → ℕ → List ℕ → Type 0
Opens (leaf p) ks e b = ⊥
Opens fields ks e b = Reads read_var_uint b e
Opens shared_fields ks e b = (w : List ℕ) × (j : Kind) × (b ≡ w ++ (type_byte SharedByFields j ∷ [])) × Reads read_var_uint w (suc e) × All (λ k. k ≡ j) ks
Opens items ks e b = (w n : List ℕ) × (b ≡ w ++ n) × Reads read_var_uint w (length n + e) × Reads read_var_uint n (length ks)
Opens shared_items ks e b = (w n : List ℕ) × (j : Kind) × (b ≡ w ++ (n ++ (type_byte SharedByItems j ∷ []))) × Reads read_var_uint w (length n + suc e)
    × Reads read_var_uint n (length ks) × All (λ k. k ≡ j) ks

-- all that stands between the last field's end and the name of a field of kind k, by how the container's fields stand: type byte and name's length
abbrev pub Before : Payload → Kind → List ℕ → List ℕ → Type 0
Before (leaf p) k n b = ⊥
Before fields k n b = (t : List ℕ) × (b ≡ type_byte OfField k ∷ t) × Reads read_var_uint t (length n)
Before shared_fields k n b = Reads read_var_uint b (length n)
Before items k n b = b ≡ type_byte OfItem k ∷ []
Before shared_items k n b = b ≡ []

-- the step after l in the container c, whose fields stand so, meets the field x at the place q: its name is the name view, and it begins at a, where
-- the last field ended, with all before its name, then the name, then its payload
pub record Meets {A : Type 0} (Shows : Place → Standing A → Type 0) (s : List ℕ) (c : Place) (how : Payload) (a : ℕ) (l : Option Place) (q : Place)
    (x : Named (Standing A)) : Type 0 where
  pub name_start : ℕ
  pub stepped : step s c l ≡ step_met q name_start
  pub named : name_view s c l ≡ x.0
  pub deeper : q.depth ≡ c.depth + 1
  pub before : Before how x.1.0 x.0 (slice a name_start s)
  pub begins : a ≤ name_start
  pub then_name : name_start ≤ q.start
  pub name_ends : q.start ≡ name_start + length x.0
  pub then_payload : q.start ≤ q.end
  pub within : q.end ≤ c.end
  pub some_byte : a < q.end
  pub shown : Shows q x.1

-- stepping on after l meets the fields xs at the places ps, one for each and in order, one behind the other from a to the end of c; and then no more
abbrev pub Walk : {A : Type 0} → (Place → Standing A → Type 0) → List ℕ → Place → Payload → ℕ → Option Place → List Place → List (Named (Standing A)) → Type 0
Walk Shows s c how a l [] [] = (step s c l ≡ Ok None) × (a ≡ c.end)
Walk Shows s c how a l [] (x ∷ xs) = ⊥
Walk Shows s c how a l (q ∷ ps) [] = ⊥
Walk Shows s c how a l (q ∷ ps) (x ∷ xs) = Meets Shows s c how a l q x × Walk Shows s c how q.end (Some q) ps xs

-- the place of the first field with the name m
abbrev pub first_of : {A : Type 0} → List ℕ → List Place → List (Named A) → Result (Option Place) PlaceError
first_of m [] xs = Ok None
first_of m (q ∷ ps) [] = Ok None
first_of m (q ∷ ps) (x ∷ xs) = cond (equal x.0 m) (Ok (Some q)) (first_of m ps xs)

-- the fields of the container at c, from where its contents begin
pub record ShownFields {A : Type 0} (Shows : Place → Standing A → Type 0) (s : List ℕ) (k : Kind) (c : Place) (xs : List (Named (Standing A))) : Type 0 where
  pub places : List Place
  pub contents : ℕ
  pub starts : contents_start s c ≡ contents
  pub inside : c.start ≤ contents
  pub opens : Opens (payload k) (kinds_in xs) (c.end - contents) (slice c.start contents s)
  pub walk : Walk Shows s c (payload k) contents None places xs
  pub answered : Answered other s c

-- an item has no name
abbrev pub unnamed : {A : Type 0} → A → Named A
unnamed x = ([], x)

-- ---- a field at its place

pub record ShownArray {A : Type 0} (Shows : Place → Standing A → Type 0) (s : List ℕ) (k : Kind) (p : Place) (xs : List (Standing A)) : Type 0 where
  pub is_array : (k ≡ Array) ⊎ (k ≡ UniformArray)
  pub items : ShownFields Shows s k p (map unnamed xs)
  pub no_lookup : (m : List ℕ) → lookup s p m ≡ Err P.WrongKind

pub record ShownObject {A : Type 0} (Shows : Place → Standing A → Type 0) (s : List ℕ) (k : Kind) (p : Place) (xs : List (Named (Standing A))) : Type 0 where
  pub is_object : (k ≡ Object) ⊎ (k ≡ UniformObject)
  pub fields : ShownFields Shows s k p xs
  pub looked_up : (m : List ℕ) → lookup s p m ≡ first_of m fields.places xs

abbrev pub ShownNode : {A : Type 0} → (Place → Standing A → Type 0) → List ℕ → Kind → Place → Node (Standing A) → Type 0
ShownNode Shows s k p (atom v) = ShownLeaf s k p v
ShownNode Shows s k p (array xs) = ShownArray Shows s k p xs
ShownNode Shows s k p (object xs) = ShownObject Shows s k p xs

-- its kind, that its check finds no fault, and what it is
pub record ShownField {A : Type 0} (Shows : Place → Standing A → Type 0) (s : List ℕ) (p : Place) (x : Standing (Node (Standing A))) : Type 0 where
  pub kind : p.kind ≡ id x.0
  pub no_fault : checked s p ≡ Ok tt
  pub node : ShownNode Shows s x.0 p x.1

-- and so for the fields in it, d levels in all
abbrev pub Shown : (d : ℕ) → List ℕ → Place → Standing (Layout d) → Type 0
Shown zero s p x = ⊥
Shown (suc d) s p x = ShownField (Shown d s) s p x

-- of a payload: what the reader reads in it, the top place, read at byte 0, and all that stands below it. What is left stands behind the top place
pub record ShownPayload (s : List ℕ) : Type 0 where
  pub kind : Kind
  pub layout : Layout depth_limit
  pub flaws : List Flaw
  pub left : List ℕ
  pub was_read : read depth_limit Fo.Top s ≡ got ([], (kind, layout)) flaws left
  pub place : Place
  pub its_tree : tree_of s ≡ some (tree depth_limit layout)
  pub is_top : top s ≡ Ok place
  pub begins : place.start ≡ 1
  pub ends : place.end + length left ≡ length s
  pub depth_1 : place.depth ≡ 1
  pub shown : Shown depth_limit s place (kind, layout)
