-- An encoding within the limits is made of bytes.
use Prim.Native.Nat.{ℕ, zero, suc, ◌+◌, ◌^◌, ◌≤◌, ◌<◌}
use native.Mathlib.Omega.{arith}
use mathlib.Core.Path.{◌≡◌, refl}
use mathlib.Core.Bool.{Bool, true, false, not, cond}
use mathlib.Core.List.{List, [], ◌∷◌, ◌++◌, map}
use lib.ListN.{length, length-append}
use lib.IntN.{pos, negsuc}
use borrow.Author.Tests.{not-true}
use Rattle.number.specs.BigEndian.{All, Bytes, to_bytes}
use Rattle.number.specs.VarUInt.{encoded}
use Rattle.number.specs.Signed.{to_twos}
use Rattle.number.proofs.BigEndianLaws.{to_bytes_law}
use Rattle.number.proofs.VarUIntLaws.{encoded_bytes}
use Rattle.float.specs.Rule.{holds}
use Rattle.float.specs.Width.{narrow}
use Rattle.format.specs.declared.Kind.{Kind}
use Rattle.format.specs.declared.Mark.{Mark}
use Rattle.format.specs.declared.Mark.TheVariants.{OfTop, OfField, OfItem, SharedByFields, SharedByItems}
use Rattle.format.specs.Kinds.{flags, type_byte, same, all, is_bare, is_uniform, is_uniform_array}
use Rattle.format.specs.Tree.{Float, number, nan32, nan64, Leaf, null, bool, integer, float, binary, string, object_attachment, binary_attachment, hash}
use Rattle.format.specs.Tree.{uuid, object_id, date_time, time_span, custom_by_id, custom_by_name, Node, atom, array, object, Tree, NameWithin, LeafWithin}
use Rattle.format.specs.Tree.{NodeWithin, Within}
use Rattle.format.specs.Encoding.{with_size, concat, float_payload, leaf_payload, shared_byte, item_kinds, field_kinds, items, fields, node_payload, kind_of}
use Rattle.format.specs.Encoding.{payload_of, encoding}
use Rattle.format.proofs.Lists.{all_of, all_pure, all_both, length_concat, and_true}
use Rattle.format.proofs.KindLaws.{all_same, id_range}
use Rattle.format.proofs.TextLaws.{inside_lt}
use Rattle.format.proofs.RoundTrip.{read_fine}

type_lt : (m : Mark) (k : Kind) → type_byte m k < 256
type_lt m k = omega (arith, flags_lt m, (id_range k).1)
  where
    flags_lt : (m : Mark) → flags m ≤ 192
    flags_lt OfTop = omega arith
    flags_lt OfField = omega arith
    flags_lt OfItem = omega arith
    flags_lt SharedByFields = omega arith
    flags_lt SharedByItems = omega arith

both : (s t : List ℕ) → Bytes s → Bytes t → Bytes (s ++ t)
both [] t a b = b
both (x ∷ s) t a b = (a.0, both s t a.1 b)

sized_bytes : (s : List ℕ) → Bytes s → length s < 2 ^ 64 → Bytes (with_size s)
sized_bytes s w l = both (encoded (length s)) s (encoded_bytes (length s) l) w

-- two parts, each below what both are below
parts : (n : ℕ) (a b : List ℕ) → length (a ++ b) < n → (length a < n) × (length b < n)
parts n a b l = let m : length a + length b < n = rw length-append at l in (omega arith, omega arith)

concat_bytes : {A : Type 0} (f : A → List ℕ) (W : A → Type 0) → ((a : A) → W a → length (f a) < 2 ^ 64 → Bytes (f a)) → (xs : List A) → All W xs
    → length (concat f xs) < 2 ^ 64 → Bytes (concat f xs)
concat_bytes f W g [] w l = tt
concat_bytes f W g (x ∷ xs) w l =
    let m = parts (2 ^ 64) (f x) (concat f xs) l in
    both (f x) (concat f xs) (g x w.0 m.0) (concat_bytes f W g xs w.1 m.1)

float_bytes : (x : Float) → Bytes (float_payload x)
float_bytes (number b) = go (holds b)
  where
    go : (h : Bool) → Bytes (cond h (to_bytes 4 (narrow b)) (to_bytes 8 b))
    go true = to_bytes_law 4 (narrow b)
    go false = to_bytes_law 8 b
float_bytes (nan32 b) = to_bytes_law 4 b
float_bytes (nan64 b) = to_bytes_law 8 b

leaf_bytes : (v : Leaf) → LeafWithin v → length (leaf_payload v) < 2 ^ 64 → Bytes (leaf_payload v)
leaf_bytes null w l = tt
leaf_bytes (bool b) w l = tt
leaf_bytes (integer (pos n)) w l = encoded_bytes n w
leaf_bytes (integer (negsuc n)) w l = encoded_bytes n (omega arith)
leaf_bytes (float x) w l = float_bytes x
leaf_bytes (binary s) w l = sized_bytes s w (inside_lt s l)
leaf_bytes (string s) w l = sized_bytes s w.0 (inside_lt s l)
leaf_bytes (object_attachment s) w l = w.0
leaf_bytes (binary_attachment s) w l = w.0
leaf_bytes (hash s) w l = w.0
leaf_bytes (uuid s) w l = w.0
leaf_bytes (object_id s) w l = w.0
leaf_bytes (date_time z) w l = to_bytes_law 8 (to_twos z)
leaf_bytes (time_span z) w l = to_bytes_law 8 (to_twos z)
leaf_bytes (custom_by_id n s) w l = let m = inside_lt (encoded n ++ s) l in sized_bytes (encoded n ++ s) (both (encoded n) s (encoded_bytes n w.0) w.1) m
leaf_bytes (custom_by_name n s) w l =
    let m = inside_lt (with_size n ++ s) l in
    let k = parts (2 ^ 64) (with_size n) s m in
    sized_bytes (with_size n ++ s) (both (with_size n) s (sized_bytes n w.0.0 (inside_lt n k.0)) w.1) m

-- there are no more items than bytes: an item has a type byte, or a payload that is not empty
item_count : {A : Type 0} (kind : A → Kind) (pay : A → List ℕ) (W : A → Type 0) → ((a : A) → W a → is_bare (kind a) ≡ false → 1 ≤ length (pay a))
    → (u : Bool) (xs : List A) → is_uniform_array (item_kinds kind xs) ≡ u → All W xs → length xs ≤ length (items u kind pay xs)
unfolding is_uniform_array
item_count kind pay W some false xs e w = length_concat (λ x. type_byte OfItem (kind x) ∷ pay x) xs (all_pure _ (λ x. omega arith) xs)
item_count kind pay W some true [] e w = omega arith
item_count kind pay W some true (x ∷ xs) e w =
    let k = kind x in
    let i = and_true (not (is_bare k)) (all (same k) (map kind xs)) e in
    let b : is_bare k ≡ false = not-true (is_bare k) i.0 in
    let q : All (λ y. kind y ≡ k) (x ∷ xs) = (refl, all_same kind k xs i.1) in
    let n : length (x ∷ xs) ≤ length (concat pay (x ∷ xs)) =
    length_concat pay (x ∷ xs)
    (all_of (λ y. (kind y ≡ k) × W y) (λ y. 1 ≤ length (pay y)) (λ y h. some y h.1 (rw h.0 b)) (x ∷ xs) (all_both _ _ (x ∷ xs) q w)) in
    omega arith

module _ {A : Type 0} (kind : A → Kind) (pay : A → List ℕ) (W : A → Type 0) (some : (a : A) → W a → is_bare (kind a) ≡ false → 1 ≤ length (pay a))
    (g : (a : A) → W a → length (pay a) < 2 ^ 64 → Bytes (pay a)) where
  shared_bytes : (m : Mark) (ks : List Kind) → Bytes (shared_byte m ks)
  shared_bytes m [] = tt
  shared_bytes m (k ∷ ks) = (type_lt m k, tt)

  items_bytes : (u : Bool) (xs : List A) → All W xs → length (items u kind pay xs) < 2 ^ 64 → Bytes (items u kind pay xs)
  items_bytes true xs w l =
      let m = parts (2 ^ 64) (shared_byte SharedByItems (item_kinds kind xs)) (concat pay xs) l in
      both (shared_byte SharedByItems (item_kinds kind xs)) (concat pay xs) (shared_bytes SharedByItems (item_kinds kind xs)) (concat_bytes pay W g xs w m.1)
  items_bytes false xs w l = concat_bytes (λ x. type_byte OfItem (kind x) ∷ pay x) W (λ a v m. (type_lt OfItem (kind a), g a v (omega arith))) xs w l

  named_bytes : (x : List ℕ × A) → NameWithin x.0 × W x.1 → length (with_size x.0 ++ pay x.1) < 2 ^ 64 → Bytes (with_size x.0 ++ pay x.1)
  named_bytes x w l =
      let m = parts (2 ^ 64) (with_size x.0) (pay x.1) l in
      both (with_size x.0) (pay x.1) (sized_bytes x.0 w.0.0.0 (inside_lt x.0 m.0)) (g x.1 w.1 m.1)

  fields_bytes : (u : Bool) (xs : List (List ℕ × A)) → All (λ x. NameWithin x.0 × W x.1) xs → length (fields u kind pay xs) < 2 ^ 64
      → Bytes (fields u kind pay xs)
  fields_bytes true xs w l =
      let c = concat (λ x. with_size x.0 ++ pay x.1) xs in
      let m = parts (2 ^ 64) (shared_byte SharedByFields (field_kinds kind xs)) c l in
      both (shared_byte SharedByFields (field_kinds kind xs)) c (shared_bytes SharedByFields (field_kinds kind xs))
      (concat_bytes (λ x. with_size x.0 ++ pay x.1) _ named_bytes xs w m.1)
  fields_bytes false xs w l =
      concat_bytes (λ x. type_byte OfField (kind x.1) ∷ (with_size x.0 ++ pay x.1)) _
      (λ x v m. (type_lt OfField (kind x.1), named_bytes x v (omega arith))) xs w l

  node_bytes : (t : Node A) → NodeWithin W t → length (node_payload kind pay t) < 2 ^ 64 → Bytes (node_payload kind pay t)
  node_bytes (atom v) w l = leaf_bytes v w l
  node_bytes (array xs) w l =
      let u = is_uniform_array (item_kinds kind xs) in
      let b = encoded (length xs) ++ items u kind pay xs in
      let m = inside_lt b l in
      let k = parts (2 ^ 64) (encoded (length xs)) (items u kind pay xs) m in
      let n = item_count kind pay W some u xs refl w in
      sized_bytes b (both (encoded (length xs)) (items u kind pay xs) (encoded_bytes (length xs) (omega arith)) (items_bytes u xs w k.1)) m
  node_bytes (object xs) w l =
      let u = is_uniform (field_kinds kind xs) in
      let m = inside_lt (fields u kind pay xs) l in
      sized_bytes (fields u kind pay xs) (fields_bytes u xs w.0 m) m

payload_bytes : (d : ℕ) (t : Tree d) → Within d t → length (payload_of d t) < 2 ^ 64 → Bytes (payload_of d t)
payload_bytes zero t w l = absurd t
payload_bytes (suc d) t w l = node_bytes (kind_of d) (payload_of d) (Within d) (read_fine d).some (payload_bytes d) t w l

pub bytes_of_encoding : (d : ℕ) (t : Tree d) → Within d t → length (encoding d t) < 2 ^ 64 → Bytes (encoding d t)
unfolding encoding
bytes_of_encoding d t w l = (type_lt OfTop (kind_of d t), payload_bytes d t w (omega arith))
