-- One layer of a tree: if only fields that were encoded are read with no flaw, then so it is with a container.
use Prim.Native.Nat.{ℕ, suc, ◌≤◌}
use native.Mathlib.Omega.{arith}
use mathlib.Core.Path.{◌≡◌, sym, ap, subst}
use mathlib.Core.Bool.{Bool, true, false}
use mathlib.Core.List.{List, [], ◌∷◌, ◌++◌, map}
use lib.ListN.{length}
use Rattle.number.specs.BigEndian.{All, Bytes}
use Rattle.number.specs.VarUInt.{encoded}
use Rattle.format.specs.declared.Kind.{Kind}
use Rattle.format.specs.declared.Mark.TheVariants.{OfItem, SharedByFields, SharedByItems}
use Rattle.format.specs.declared.Form.TheVariants.{Field, Item, SharedField, SharedItem}
use Rattle.format.specs.Kinds.{type_byte, same, all, is_bare, is_uniform, is_uniform_array}
use Rattle.format.specs.declared.Flaw.TheVariants.{NotUniform, Twin}
use Rattle.format.specs.Parse.{Out, got, bind, raise, make, read_var_uint, many, fill}
use Rattle.format.specs.Names.{twins}
use Rattle.format.specs.Tree.{Leaf, Node, atom, array, object, map_node, NameWithin, NodeWithin}
use Rattle.format.specs.Encoding.{concat, field_kinds, node_kind, items, fields, node_payload}
use Rattle.format.specs.Payload.{payload, Head, value, fields_in, items_in, read_shared_fields, read_shared_items, read_fields, read_items, head, Payload, leaf}
use Rattle.format.specs.Payload.{head_by}
use Rattle.format.specs.Reader.{Standing, Named, Reader, kinds_in, names_in, contents, read_node}
use Rattle.format.proofs.Lists.{append_nil, all_of}
use Rattle.format.proofs.Back.{bind_case, make_case, raise_off, whole_case, number_case, sized_case, many_case, fill_inv}
use Rattle.format.proofs.KindLaws.{same_all}
use Rattle.format.specs.Payload as P
use Rattle.format.proofs.SharedKind.{shared_fields_got, shared_items_got}
use Rattle.format.proofs.LeavesBack.{OnlyBy, OnlyLeaves, leaf_only}
use Rattle.format.proofs.LayerFields.{FieldWithin, Fine, field_bytes, item_good, items_stand, kinds_of_fields, kinds_of_items, nameless, names_of_fields}
use Rattle.format.proofs.LayerFields.{read_as, shared_item_good, stand}

module _ {A X : Type 0} (p : Reader X) (kind : A → Kind) (lay : A → X) (pay : A → List ℕ) (W : A → Type 0) (g : Fine p kind lay pay W) where
  abbrev ItemsBack : Bool → List ℕ → Node (Standing X) → Type 0
  ItemsBack u b t =
      (xs : List A) × (t ≡ array (map (stand kind lay) xs)) × (b ≡ encoded (length xs) ++ items u kind pay xs) × (is_uniform_array (map kind xs) ≡ u) × All W xs

  abbrev FieldsBack : Bool → List ℕ → Node (Standing X) → Type 0
  FieldsBack u b t = (xs : List (Named A)) × (t ≡ object (map (read_as kind lay) xs)) × (b ≡ fields u kind pay xs) × (is_uniform (field_kinds kind xs) ≡ u)
      × NodeWithin W (object xs)

  items_inv : (b : List ℕ) (h : Head) (t : Node (Standing X)) → Bytes b → read_items b ≡ got h [] [] → contents p h ≡ got t [] [] → ItemsBack false b t
  items_inv b h t w e c =
      bind_case (read_var_uint b) _ e λ n q i j. number_case b w i λ v _ wq.
      let z : items_in Item n q ≡ h = cc in
      bind_case (many (p Item) n q) _ (subst (λ h. contents p h ≡ got t [] []) (sym z) c) λ ys u e₁ c₁.
      many_case (p Item) (λ a. read_as kind lay (nameless a)) (λ a. type_byte OfItem (kind a) ∷ pay a) _
      (item_good p kind lay pay W g) n q wq e₁ λ xs ey es ws el.
      let y = raise_off (is_uniform_array (kinds_in ys)) NotUniform (got (array (map (λ x. x.1) ys)) [] u) c₁ in (
        xs,
        cc (items_stand kind lay xs),
        cc (append_nil (concat (λ a. type_byte OfItem (kind a) ∷ pay a) xs)),
        cc (kinds_of_items kind lay xs),
        all_of _ W
            (λ a v. v.1) xs ws,
      )

  shared_items_inv : (b : List ℕ) (h : Head) (t : Node (Standing X)) → Bytes b → bind (read_var_uint b) read_shared_items ≡ got h [] []
      → contents p h ≡ got t [] [] → ItemsBack true b t
  unfolding is_uniform_array
  shared_items_inv b h t w e c = bind_case (read_var_uint b) _ e λ m q i j. number_case b w i λ v _ wq. shared_items_got m q j λ k n s em eq full eh.
      let v' : b ≡ encoded (suc n) ++ (type_byte SharedByItems k ∷ s) = rw (em, eq) at v in
      bind_case (many (p (SharedItem k)) (suc n) s) _ (subst (λ h. contents p h ≡ got t [] []) eh c) λ ys u e₁ c₁.
      many_case (p (SharedItem k)) (λ a. read_as kind lay (nameless a)) pay _ (shared_item_good p kind lay pay W g k) (suc n) s
      (subst Bytes eq wq).1 e₁ λ xs ey es ws el.
      go k n s v' full ys u xs ey es ws el c₁
    where
      go : (k : Kind) (n : ℕ) (s : List ℕ) → b ≡ encoded (suc n) ++ (type_byte SharedByItems k ∷ s) → is_bare k ≡ false
          → (ys : List (Named (Standing X))) (u : List ℕ) (xs : List A) → ys ≡ map (λ a. read_as kind lay (nameless a)) xs → s ≡ concat pay xs ++ u
          → All (λ a. FieldWithin (SharedItem k) kind W (nameless a)) xs → length xs ≡ suc n
          → got (array (map (λ x. x.1) ys)) [] u ≡ got t [] [] → ItemsBack true b t
      go k n s v full ys u [] ey es ws el h = absurd (omega arith)
      go k n s v full ys u (x ∷ xs) ey es ws el h =
          let a : kind x ≡ k = ws.0.0.0 in
          let c : all (same (kind x)) (map kind xs) ≡ true = rw a (same_all kind k xs (all_of _ (λ a. kind a ≡ k) (λ a w. w.0.0) xs ws.1)) in (
            x ∷ xs,
            cc (items_stand kind lay (x ∷ xs)),
            rw (el, a) (cc (append_nil (concat pay (x ∷ xs)))),
            rw (c, a, full),
            all_of _ W (λ a w. w.1)
                (x ∷ xs) ws,
          )

  fields_inv : (b : List ℕ) (h : Head) (t : Node (Standing X)) → Bytes b → read_fields b ≡ got h [] [] → contents p h ≡ got t [] [] → FieldsBack false b t
  fields_inv b h t w e c =
      let z : fields_in Field b ≡ h = cc in
      bind_case (fill (p Field) (length b) b) _ (subst (λ h. contents p h ≡ got t [] []) (sym z) c) λ ys r e₁ c₁.
      let u = raise_off (is_uniform (kinds_in ys)) NotUniform (raise (twins (names_in ys)) Twin (got (object ys) [] r)) c₁ in
      let f = fill_inv (p Field) (read_as kind lay) (field_bytes Field kind pay) _ (g.good Field) (length b) b ys r w e₁ in
      let y = raise_off (twins (names_in ys)) Twin (got (object ys) [] r) u.1 in
      (f.0, cc, f.2, cc (kinds_of_fields kind lay f.0), (f.4, cc (names_of_fields kind lay f.0)))

  shared_fields_inv : (b : List ℕ) (h : Head) (t : Node (Standing X)) → Bytes b → read_shared_fields b ≡ got h [] []
      → contents p h ≡ got t [] [] → FieldsBack true b t
  unfolding is_uniform
  shared_fields_inv b h t w e c = shared_fields_got b e λ k x s eb eh.
      bind_case (fill (p (SharedField k)) (length (x ∷ s)) (x ∷ s)) _ (subst (λ h. contents p h ≡ got t [] []) eh c) λ ys r e₁ c₁.
      let f = fill_inv (p (SharedField k)) (read_as kind lay) (field_bytes (SharedField k) kind pay) _ (g.good (SharedField k)) (length (x ∷ s)) (x ∷ s) ys r
      (subst Bytes eb w).1 e₁ in
      go k (x ∷ s) eb (omega arith) ys r f.0 f.1 f.2 f.3 f.4 c₁
    where
      go : (k : Kind) (s : List ℕ) → b ≡ type_byte SharedByFields k ∷ s → 1 ≤ length s → (ys : List (Named (Standing X))) (r : List ℕ) (xs : List (Named A))
          → ys ≡ map (read_as kind lay) xs
          → s ≡ concat (field_bytes (SharedField k) kind pay) xs → r ≡ [] → All (FieldWithin (SharedField k) kind W) xs
          → raise (twins (names_in ys)) Twin (got (object ys) [] r) ≡ got t [] [] → FieldsBack true b t
      go k s eb o ys r [] ey es er ws h = absurd (let z : length s ≡ 0 = ap length es in omega arith)
      go k s eb o ys r (x ∷ xs) ey es er ws h =
          let z = raise_off (twins (names_in ys)) Twin (got (object ys) [] r) h in
          let a : kind x.1 ≡ k = ws.0.0.0 in
          let d : all (same (kind x.1)) (map (λ y. kind y.1) xs) ≡ true =
          rw a (same_all (λ y. kind y.1) k xs (all_of _ (λ y. kind y.1 ≡ k) (λ y w. w.0.0) xs ws.1)) in (
            x ∷ xs,
            cc,
            rw a (cc),
            d,
            (
              all_of _ (λ y. NameWithin y.0 × W y.1) (λ y w. (w.0.1, w.1)) (x ∷ xs) ws,
              cc
                  (names_of_fields kind lay (x ∷ xs)),
            ),
          )

  -- t was read from s with r left: s begins with its encoding, which has this kind
  abbrev pub NodeBack : Kind → List ℕ → Node (Standing X) → List ℕ → Type 0
  NodeBack k s t r = (u : Node A) × (t ≡ map_node (stand kind lay) u) × (s ≡ node_payload kind pay u ++ r) × (node_kind kind u ≡ k) × NodeWithin W u

  leaf_inv : (k : Kind) (q : List ℕ → Out Leaf) → OnlyLeaves k q → (s : List ℕ) (h : Head) (t : Node (Standing X)) (r : List ℕ) → Bytes s
      → make value (q s) ≡ got h [] r → contents p h ≡ got t [] [] → NodeBack k s t r
  leaf_inv k q only s h t r w e c = make_case value (q s) e λ v i z.
      let j = only s v r w i in
      let y : contents p (value v) ≡ got t [] [] = subst (λ h. contents p h ≡ got t [] []) z c in
      (atom v, cc, j.0, j.1, j.2)

  head_inv : (k : Kind) (s : List ℕ) (h : Head) (t : Node (Standing X)) (r : List ℕ) → Bytes s → head k s ≡ got h [] r
      → contents p h ≡ got t [] [] → NodeBack k s t r
  unfolding head
  head_inv k s h t r w e c = by (payload k) (leaf_only k) e
    where
      by : (o : Payload) → OnlyBy k o → head_by o s ≡ got h [] r → NodeBack k s t r
      by (leaf q) only e = leaf_inv k q only s h t r w e c
      by P.fields z e = sized_case read_fields w e λ b i es wb l.
          let j = fields_inv b h t wb i c in (object j.0, j.1, rw j.3 (cc), rw (j.3, z), j.4)
      by P.shared_fields z e = sized_case read_shared_fields w e λ b i es wb l.
          let j = shared_fields_inv b h t wb i c in (object j.0, j.1, rw j.3 (cc), rw (j.3, z), j.4)
      by P.items z e = sized_case read_items w e λ b i es wb l.
          let j = items_inv b h t wb i c in (array j.0, j.1, rw j.3 (cc), rw (j.3, z), j.4)
      by P.shared_items z e = sized_case (λ b. bind (read_var_uint b) read_shared_items) w e λ b i es wb l.
          let j = shared_items_inv b h t wb i c in (array j.0, j.1, rw j.3 (cc), rw (j.3, z), j.4)

  pub node_inv : (k : Kind) (s : List ℕ) (t : Node (Standing X)) (r : List ℕ) → Bytes s → read_node p k s ≡ got t [] r → NodeBack k s t r
  node_inv k s t r w e = bind_case (head k s) _ e λ h q i j. let z = whole_case (contents p h) q j in head_inv k s h t r w (rw z.1 at i) z.0
