-- The list of a tree is at most twice as long as its encoding: what a uniform container shares in the encoding, the list says for each field.
use Prim.Native.Nat.{ℕ, zero, suc, ◌+◌, ◌*◌, ◌≤◌}
use native.Mathlib.Omega.{arith}
use mathlib.Core.Path.{◌≡◌, refl}
use mathlib.Core.Bool.{Bool, true, false, not}
use mathlib.Core.List.{List, [], ◌∷◌, ◌++◌, map}
use lib.ListN.{length, length-append}
use borrow.Author.Tests.{not-true}
use Rattle.number.specs.BigEndian.{All}
use Rattle.number.specs.VarUInt.{encoded}
use Rattle.number.proofs.VarUIntLaws.{encoded_length}
use Rattle.format.specs.declared.Kind.{Kind}
use Rattle.format.specs.declared.Mark.TheVariants.{OfField, OfItem, SharedByFields}
use Rattle.format.specs.Kinds.{type_byte, same, all, is_bare, is_uniform, is_uniform_array}
use Rattle.format.specs.Tree.{Node, atom, array, object, Tree, NameWithin, NodeWithin, Within}
use Rattle.format.specs.Encoding.{with_size, concat, leaf_payload, shared_byte, item_kinds, field_kinds, items, fields, array_body, object_body, node_kind}
use Rattle.format.specs.Encoding.{node_payload, kind_of, payload_of, encoding}
use Rattle.format.proofs.Lists.{all_both, and_true}
use Rattle.format.proofs.KindLaws.{all_same}
use Rattle.format.proofs.Leaves.{leaf_some}
use Rattle.frames.specs.Describe.{close, node_frames, frames_of, list_of}

concat_twice : {A : Type 0} (P : A → Type 0) (f g : A → List ℕ) → ((x : A) → P x → length (f x) ≤ 2 * length (g x)) → (xs : List A) → All P xs
    → length (concat f xs) ≤ 2 * length (concat g xs)
concat_twice P f g h [] w = omega arith
concat_twice P f g h (x ∷ xs) w =
    let a = length-append (f x) (concat f xs) in
    let b = length-append (g x) (concat g xs) in
    omega (arith, h x w.0, concat_twice P f g h xs w.1)

-- a name stands in a frame as it is; without it a frame is at most twice the payload, and one more for 01, 0C and 0D
pub record Twice {A : Type 0} (W : A → Type 0) (kind : A → Kind) (pay : A → List ℕ) (f : List ℕ → A → List ℕ) : Type 0 where
  pub named : (name : List ℕ) (a : A) → length (f name a) ≡ length name + length (f [] a)
  pub full : (a : A) → W a → is_bare (kind a) ≡ false → length (f [] a) ≤ 2 * length (pay a)
  pub any : (a : A) → W a → length (f [] a) ≤ 2 * length (pay a) + 1

module _ {A : Type 0} (W : A → Type 0) (kind : A → Kind) (pay : A → List ℕ) (f : List ℕ → A → List ℕ) (g : Twice W kind pay f) where
  items_twice : (u : Bool) (xs : List A) → is_uniform_array (item_kinds kind xs) ≡ u → All W xs → length (concat (f []) xs) ≤ 2 * length (items u kind pay xs)
  unfolding is_uniform_array
  items_twice false xs e w = concat_twice W (f []) (λ x. type_byte OfItem (kind x) ∷ pay x) (λ x v. omega (arith, g.any x v)) xs w
  items_twice true [] e w = omega arith
  items_twice true (x ∷ xs) e w =
      let k = kind x in
      let i = and_true (not (is_bare k)) (all (same k) (map kind xs)) e in
      let b : is_bare k ≡ false = not-true (is_bare k) i.0 in
      let q : All (λ y. kind y ≡ k) (x ∷ xs) = (refl, all_same kind k xs i.1) in
      omega (
        arith,
        concat_twice (λ y. (kind y ≡ k) × W y) (f []) pay (λ y v. g.full y v.1 (rw v.0 b)) (x ∷ xs) (all_both (λ y. kind y ≡ k) W (x ∷ xs) q w),
      )

  fields_twice : (u : Bool) (xs : List (List ℕ × A)) → All (λ x. NameWithin x.0 × W x.1) xs
      → length (concat (λ x. f (with_size x.0) x.1) xs) ≤ 2 * length (fields u kind pay xs)
  fields_twice false xs w = concat_twice (λ x. NameWithin x.0 × W x.1) (λ x. f (with_size x.0) x.1)
      (λ x. type_byte OfField (kind x.1) ∷ (with_size x.0 ++ pay x.1))
      (λ x v. omega (arith, g.named (with_size x.0) x.1, g.any x.1 v.1, length-append (with_size x.0) (pay x.1))) xs w
  fields_twice true xs w =
      let c = concat (λ x. with_size x.0 ++ pay x.1) xs in
      omega (
        arith,
        length-append (shared_byte SharedByFields (field_kinds kind xs)) c,
        concat_twice (λ x. NameWithin x.0 × W x.1) (λ x. f (with_size x.0) x.1) (λ x. with_size x.0 ++ pay x.1)
            (λ x v. omega (
              arith,
              g.named (with_size x.0) x.1,
              g.any x.1 v.1,
              length-append (with_size x.0) (pay x.1),
              length-append (encoded (length x.0)) x.0,
              (encoded_length (length x.0)).0,
            )) xs w,
      )

  node_named : (name : List ℕ) (t : Node A) → length (node_frames f name t) ≡ length name + length (node_frames f [] t)
  node_named name (atom v) = omega (arith, length-append name (leaf_payload v))
  node_named name (array xs) = omega (arith, length-append name (concat (f []) xs ++ close))
  node_named name (object xs) = omega (arith, length-append name (concat (λ x. f (with_size x.0) x.1) xs ++ close))

  array_twice : (xs : List A) → All W xs → length (node_frames f [] (array xs)) ≤ 2 * length (node_payload kind pay (array xs))
  array_twice xs w =
      let u = is_uniform_array (item_kinds kind xs) in
      let b = array_body kind pay xs in
      omega (
        arith,
        length-append (concat (f []) xs) close,
        items_twice u xs refl w,
        length-append (encoded (length xs)) (items u kind pay xs),
        (encoded_length (length xs)).0,
        length-append (encoded (length b)) b,
        (encoded_length (length b)).0,
      )

  object_twice : (xs : List (List ℕ × A)) → All (λ x. NameWithin x.0 × W x.1) xs
      → length (node_frames f [] (object xs)) ≤ 2 * length (node_payload kind pay (object xs))
  object_twice xs w =
      let b = object_body kind pay xs in
      omega (
        arith,
        length-append (concat (λ x. f (with_size x.0) x.1) xs) close,
        fields_twice (is_uniform (field_kinds kind xs)) xs w,
        length-append (encoded (length b)) b,
        (encoded_length (length b)).0,
      )

  node_full : (t : Node A) → NodeWithin W t → is_bare (node_kind kind t) ≡ false → length (node_frames f [] t) ≤ 2 * length (node_payload kind pay t)
  node_full (atom v) w h = omega (arith, leaf_some v w h)
  node_full (array xs) w h = array_twice xs w
  node_full (object xs) w h = object_twice xs w.0

  node_any : (t : Node A) → NodeWithin W t → length (node_frames f [] t) ≤ 2 * length (node_payload kind pay t) + 1
  node_any (atom v) w = omega arith
  node_any (array xs) w = omega (arith, array_twice xs w)
  node_any (object xs) w = omega (arith, object_twice xs w.0)

  node_twice : Twice (NodeWithin W) (node_kind kind) (node_payload kind pay) (node_frames f)
  node_twice = record { named = node_named; full = node_full; any = node_any }

tree_twice : (d : ℕ) → Twice (Within d) (kind_of d) (payload_of d) (frames_of d)
tree_twice zero = record { named = λ name a. absurd a; full = λ a w h. absurd a; any = λ a w. absurd a }
tree_twice (suc d) = node_twice (Within d) (kind_of d) (payload_of d) (frames_of d) (tree_twice d)

pub list_length : (d : ℕ) (t : Tree d) → Within d t → length (list_of d t) ≤ 2 * length (encoding d t)
unfolding list_of encoding
list_length d t w = omega (arith, (tree_twice d).any t w)
