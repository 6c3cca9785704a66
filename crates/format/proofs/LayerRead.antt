-- One layer of a tree: if the fields are read back, then so is a container.
use Rattle.std.specs.Prelude.{Some}
use Prim.Native.Nat.{ℕ, suc, ◌+◌, ◌^◌, ◌≤◌, ◌<◌}
use native.Mathlib.Omega.{arith}
use mathlib.Core.Path.{◌≡◌, refl}
use mathlib.Core.Bool.{Bool, true, false, not, cond}
use mathlib.Core.List.{List, [], ◌∷◌, ◌++◌, map}
use lib.ListN.{length, length-append}
use borrow.Author.Tests.{not-true}
use Rattle.number.proofs.Clash.{clash}
use Rattle.number.specs.BigEndian.{All}
use Rattle.number.specs.VarUInt.{encoded}
use Rattle.format.specs.declared.Kind.{Kind}
use Rattle.format.specs.declared.Kind.TheVariants.{Object, UniformObject, Array, UniformArray}
use Rattle.format.specs.declared.Mark.TheVariants.{OfItem, SharedByFields, SharedByItems}
use Rattle.format.specs.declared.Form.TheVariants.{Field, Item, SharedField, SharedItem}
use Rattle.format.specs.Kinds.{type_byte, same, all, is_bare, is_uniform, is_uniform_array}
use Rattle.format.specs.Parse.{got, bind, read_var_uint, many}
use Rattle.format.specs.Tree.{Node, atom, array, object, map_node, NameWithin, NodeWithin}
use Rattle.format.specs.Encoding.{with_size, concat, leaf_kind, leaf_payload, field_kinds, node_kind, items, fields, node_payload}
use Rattle.format.specs.Payload.{payload, Head, value, fields_in, items_in, shared_fields_of, read_shared_fields, read_shared_items, read_fields, read_items, head}
use Rattle.format.specs.Reader.{Standing, Named, Reader, contents, read_node}
use Rattle.format.proofs.Lists.{append_nil, all_of, all_pure, all_both, length_concat, and_true}
use Rattle.format.proofs.Back.{number_rt, sized_rt, many_rt, fill_rt}
use Rattle.format.proofs.KindLaws.{kind_rt, all_same}
use Rattle.format.proofs.TextLaws.{size_some, inside_lt}
use Rattle.format.proofs.Leaves.{leaf_rt}
use Rattle.format.proofs.LayerFields.{Fine, field_bytes, item_good, items_stand, kinds_of_fields, kinds_of_items, nameless, names_of_fields, read_as}
use Rattle.format.proofs.LayerFields.{shared_item_good, stand}

-- a head that is read gives the node by its contents
by_head : {X : Type 0} (p : Reader X) (k : Kind) (s : List ℕ) (h : Head) (t : Node (Standing X)) (r : List ℕ) → head k s ≡ got h [] r
    → contents p h ≡ got t [] [] → read_node p k s ≡ got t [] r
by_head p k s h t r e i = rw (e, i)

shared_more : (k : Kind) (s : List ℕ) → 1 ≤ length s → shared_fields_of (Some k) s ≡ got (fields_in (SharedField k) s) [] []
shared_more k [] h = absurd (omega arith)
shared_more k (b ∷ s) h = refl

no_uniform : {X : Type 0} → false ≡ true → X
no_uniform h = clash cc

module _ {A X : Type 0} (p : Reader X) (kind : A → Kind) (lay : A → X) (pay : A → List ℕ) (W : A → Type 0) (g : Fine p kind lay pay W) where
  array_rt : (xs : List A) (r : List ℕ) → All W xs → (u : Bool) → is_uniform_array (map kind xs) ≡ u
      → length (with_size (encoded (length xs) ++ items u kind pay xs)) < 2 ^ 64
      → read_node p (cond u UniformArray Array) (with_size (encoded (length xs) ++ items u kind pay xs) ++ r) ≡ got (array (map (stand kind lay) xs)) [] r
  unfolding is_uniform_array head payload
  array_rt xs r w false e l =
      let f : A → List ℕ = λ a. type_byte OfItem (kind a) ∷ pay a in
      let t = encoded (length xs) ++ concat f xs in
      let n : length (encoded (length xs)) + length (concat f xs) < 2 ^ 64 = rw length-append at (inside_lt t l) in
      let b : length xs ≤ length (concat f xs) = length_concat f xs (all_pure (λ x. 1 ≤ length (f x)) (λ x. omega arith) xs) in
      let m : many (p Item) (length xs) (concat f xs) ≡ got (map (λ a. read_as kind lay (nameless a)) xs) [] [] =
      rw append_nil at (many_rt (p Item) (λ a. read_as kind lay (nameless a)) f _ (item_good p kind lay pay W g) xs [] (all_of W _ (λ x v. (refl, v)) xs w)
      (omega arith)) in
      by_head p Array (with_size t ++ r) (items_in Item (length xs) (concat f xs)) (array (map (stand kind lay) xs)) r
      (sized_rt read_items t (items_in Item (length xs) (concat f xs)) r (inside_lt t l) (rw (number_rt (length xs) (concat f xs) (omega arith))))
      (rw (m, kinds_of_items kind lay xs, items_stand kind lay xs, e))
  array_rt [] r w true e l = no_uniform e
  array_rt (x ∷ xs) r w true e l =
      let k = kind x in
      let i = and_true (not (is_bare k)) (all (same k) (map kind xs)) e in
      let s : is_bare k ≡ false = not-true (is_bare k) i.0 in
      let q : All (λ y. kind y ≡ k) (x ∷ xs) = (refl, all_same kind k xs i.1) in
      let t = encoded (suc (length xs)) ++ (type_byte SharedByItems k ∷ concat pay (x ∷ xs)) in
      let n : length (encoded (suc (length xs))) + suc (length (concat pay (x ∷ xs))) < 2 ^ 64 = rw length-append at (inside_lt t l) in
      let b : suc (length xs) ≤ length (concat pay (x ∷ xs)) =
      length_concat pay (x ∷ xs)
      (all_of (λ y. (kind y ≡ k) × W y) (λ y. 1 ≤ length (pay y)) (λ y h. g.some y h.1 (rw h.0 s)) (x ∷ xs) (all_both _ _ (x ∷ xs) q w)) in
      let m : many (p (SharedItem k)) (suc (length xs)) (concat pay (x ∷ xs)) ≡ got (map (λ a. read_as kind lay (nameless a)) (x ∷ xs)) [] [] =
      rw append_nil at (many_rt (p (SharedItem k)) (λ a. read_as kind lay (nameless a)) pay _ (shared_item_good p kind lay pay W g k) (x ∷ xs) []
      (all_of (λ y. (kind y ≡ k) × W y) _ (λ y h. ((h.0, refl), h.1)) (x ∷ xs) (all_both _ _ (x ∷ xs) q w)) (omega arith)) in
      by_head p UniformArray (with_size t ++ r) (items_in (SharedItem k) (suc (length xs)) (concat pay (x ∷ xs))) (array (map (stand kind lay) (x ∷ xs))) r
      (sized_rt (λ b. bind (read_var_uint b) read_shared_items) t (items_in (SharedItem k) (suc (length xs)) (concat pay (x ∷ xs))) r (inside_lt t l)
      (rw (number_rt (suc (length xs)) (type_byte SharedByItems k ∷ concat pay (x ∷ xs)) (omega arith), kind_rt SharedByItems k, s)))
      (rw (m, items_stand kind lay (x ∷ xs)))

  named_some : (k : Kind) (x : Named A) → 1 ≤ length (field_bytes (SharedField k) kind pay x)
  named_some k x = size_some x.0 (pay x.1)

  object_rt : (xs : List (Named A)) (r : List ℕ) → NodeWithin W (object xs) → (u : Bool) → is_uniform (field_kinds kind xs) ≡ u
      → length (with_size (fields u kind pay xs)) < 2 ^ 64
      → read_node p (cond u UniformObject Object) (with_size (fields u kind pay xs) ++ r) ≡ got (object (map (read_as kind lay) xs)) [] r
  unfolding is_uniform head payload
  object_rt xs r w false e l =
      let f = field_bytes Field kind pay in
      let t = concat f xs in
      let m = fill_rt (p Field) (read_as kind lay) f _ (g.good Field) xs (length t) w.0 (all_pure (λ x. 1 ≤ length (f x)) (λ x. omega arith) xs)
      (omega arith) (inside_lt t l) in
      by_head p Object (with_size t ++ r) (fields_in Field t) (object (map (read_as kind lay) xs)) r
      (sized_rt read_fields t (fields_in Field t) r (inside_lt t l) refl)
      (rw (m, kinds_of_fields kind lay xs, names_of_fields kind lay xs, e, w.1))
  object_rt [] r w true e l = no_uniform e
  object_rt (x ∷ xs) r w true e l =
      let k = kind x.1 in
      let f = field_bytes (SharedField k) kind pay in
      let c = concat f (x ∷ xs) in
      let t = type_byte SharedByFields k ∷ c in
      let n : length t < 2 ^ 64 = inside_lt t l in
      let q : All (λ y. kind y.1 ≡ k) (x ∷ xs) = (refl, all_same (λ y. kind y.1) k xs e) in
      let o : 1 ≤ length c = rw length-append (omega (arith, named_some k x)) in
      let m = fill_rt (p (SharedField k)) (read_as kind lay) f _ (g.good (SharedField k)) (x ∷ xs) (length c)
      (all_of (λ y. (kind y.1 ≡ k) × (NameWithin y.0 × W y.1)) _ (λ y h. ((h.0, h.1.0), h.1.1)) (x ∷ xs) (all_both _ _ (x ∷ xs) q w.0))
      (all_pure (λ x. 1 ≤ length (f x)) (named_some k) (x ∷ xs)) (omega arith) (omega arith) in
      by_head p UniformObject (with_size t ++ r) (fields_in (SharedField k) c) (object (map (read_as kind lay) (x ∷ xs))) r
      (sized_rt read_shared_fields t (fields_in (SharedField k) c) r n (rw (kind_rt SharedByFields k, shared_more k c o)))
      (rw (m, names_of_fields kind lay (x ∷ xs), w.1))

  pub node_rt : (t : Node A) (r : List ℕ) → NodeWithin W t → length (node_payload kind pay t) < 2 ^ 64
      → read_node p (node_kind kind t) (node_payload kind pay t ++ r) ≡ got (map_node (stand kind lay) t) [] r
  node_rt (atom v) r w l = by_head p (leaf_kind v) (leaf_payload v ++ r) (value v) (atom v) r (leaf_rt v r w l) refl
  node_rt (array xs) r w l = array_rt xs r w (is_uniform_array (map kind xs)) refl l
  node_rt (object xs) r w l = object_rt xs r w (is_uniform (field_kinds kind xs)) refl l
