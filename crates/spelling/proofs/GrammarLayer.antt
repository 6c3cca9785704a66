-- A layer by the kind, and every layer: a field is read just as the grammar spells it.
use Rattle.std.specs.Prelude.{Option, None, Some}
use Prim.Native.Nat.{ℕ, zero, suc, ◌^◌, ◌≤◌}
use native.Mathlib.Omega.{arith}
use mathlib.Core.Path.{◌≡◌, refl, sym, ap, subst, ◌∙◌}
use mathlib.Core.Bool.{Bool, true, false, not, cond}
use mathlib.Core.List.{List, [], ◌∷◌, ◌++◌}
use lib.ListN.{length, length-append}
use lib.Dec.{ltb}
use lib.IntN.{pos, negsuc}
use Rattle.number.specs.BigEndian.{Bytes, from_bytes}
use Rattle.number.specs.Signed.{from_twos}
use Rattle.float.specs.Rule.{holds}
use Rattle.format.specs.declared.Kind.{Kind}
use Rattle.format.specs.declared.Kind.TheVariants.{Null, Object, UniformObject, Array, UniformArray, Binary, String, IntegerPositive, IntegerNegative}
use Rattle.format.specs.declared.Kind.TheVariants.{Float32, Float64, False, True, ObjectAttachment, BinaryAttachment, Hash, Uuid, DateTime, TimeSpan}
use Rattle.format.specs.declared.Kind.TheVariants.{ObjectId, CustomById, CustomByName}
use Rattle.format.specs.declared.Mark.TheVariants.{SharedByFields, SharedByItems}
use Rattle.format.specs.declared.Form.{Form}
use Rattle.format.specs.declared.Form.TheVariants.{Field, Item, SharedField, SharedItem}
use Rattle.format.specs.declared.Stop.TheVariants.{BadUniform}
use Rattle.format.specs.Kinds.{type_byte, kind_at, is_bare}
use Rattle.format.specs.declared.Flaw.{Flaw}
use Rattle.format.specs.declared.Flaw.TheVariants.{Low, Wide}
use Rattle.format.specs.Parse.{Out, fault, got, bind, make, whole, read_var_uint, fixed, sized, rest}
use Rattle.format.specs.Names.{read_text}
use Rattle.format.specs.Tree.{Leaf, null, bool, integer, float, binary, string, object_attachment, binary_attachment, hash, uuid, object_id, date_time, time_span}
use Rattle.format.specs.Tree.{custom_by_id, custom_by_name, Node, atom}
use Rattle.format.specs.Payload.{value, payload, float32, float64, read_negative, read_float64, read_custom_by_id, read_custom_by_name, Head, fields_in, items_in}
use Rattle.format.specs.Payload.{shared_fields_of, read_shared_fields, shared_items_of, read_shared_items, read_fields, read_items, front, head}
use Rattle.format.specs.Reader.{Standing, Named, Layout, Reader, contents, read_node, read_field, read}
use Rattle.spelling.specs.Spells.{Bare, All-of, Exactly, Made, Behind, Sized, FrontSpells, FieldsSpell, ItemsSpell, SharedFieldsSpell, SharedItemsSpell}
use Rattle.spelling.specs.Spells.{NodeSpells, FieldSpells, Spells}
use Rattle.format.proofs.KindLaws.{kind_rt, kind_inv}
use Rattle.spelling.proofs.BareKinds.{not_bare_exactly}
use Rattle.format.proofs.Back.{never}
use Rattle.format.proofs.Lists.{bytes_right}
use Rattle.format.proofs.Local.{with_put, bind_got}
use Rattle.spelling.proofs.Grammar.{Clean, Front, front_as, front_bind, part_bind, front_got, part_rest, front_make, part_make, front_flag, front_fixed}
use Rattle.spelling.proofs.Grammar.{front_sized}
use Rattle.spelling.proofs.GrammarFronts.{front_text, front_front}
use Rattle.spelling.proofs.GrammarContents.{leaf_node, node_sized, items_part, fields_part}

module _ {C : List Flaw → Type 0} (clean : Clean C) {Num : ℕ → List ℕ → Type 0} (num : Front C read_var_uint Num) where
  module _ {X : Type 0} (p : Reader X) (S : Form → Named (Standing X) → List ℕ → Type 0) (good : (g : Form) → Front C (p g) (S g))
      (some_field : (x : Named (Standing X)) (w : List ℕ) → S Field x w → 1 ≤ length w)
      (some_shared : (k : Kind) (x : Named (Standing X)) (w : List ℕ) → S (SharedField k) x w → 1 ≤ length w) where
    object_node : Front C (λ s. bind (sized read_fields s) λ h r. whole (contents p h) r) (Sized Num (FieldsSpell Num S Field))
    object_node = node_sized clean num p read_fields _
        (λ b h fs gs t y e c i d. let z : fields_in Field b ≡ h = cc in (fields_part clean num p S good Field some_field).to b t gs y
        (subst (λ h. contents p h ≡ got t gs []) (sym z) i) d)
        (λ b t x. let i = (fields_part clean num p S good Field some_field).from t b x in (fields_in Field b, [], i.0, clean.none, i.1, refl, i.2))

    array_node : Front C (λ s. bind (sized read_items s) λ h r. whole (contents p h) r) (Sized Num (Behind Num (ItemsSpell Num S Item)))
    array_node = node_sized clean num p read_items _
        (λ b h fs gs t y e c i d. bind_got (read_var_uint b) _ e λ n es q gs' i' j' ef.
        let z : items_in Item n q ≡ h = cc in
        let m = num.to b n es q y i' (clean.left es gs' (subst C ef c)) in (
          n,
          m.0,
          q,
          m.1,
          m.2,
          (items_part clean num p S good Item n).to q t gs (bytes_right _ m.0 q y m.1)
              (subst (λ h. contents p h ≡ got t gs []) (sym z) i) d,
        ))
        (λ b t x.
        let m = num.from x.0 x.1 x.4 x.2 in
        let i = (items_part clean num p S good Item x.0).from t x.2 x.5 in (
          items_in Item x.0 x.2,
          m.0 ++ [],
          i.0,
          clean.both m.0 [] m.1 clean.none,
          i.1,
          rw (x.3, m.2)
              (with_put m.0 [] (items_in Item x.0 x.2) []),
          i.2,
        ))

    shared_fields_to : (b : List ℕ) (h : Head) (fs gs : List Flaw) (t : Node (Standing X)) → Bytes b → read_shared_fields b ≡ got h fs [] → C fs
        → contents p h ≡ got t gs [] → C gs → SharedFieldsSpell Num S t b
    shared_fields_to [] h fs gs t y e c i d = never e
    shared_fields_to (b ∷ s) h fs gs t y e c i d = go (kind_at SharedByFields b) refl s y.1 e
      where
        go : (o : Option Kind) → kind_at SharedByFields b ≡ o → (s : List ℕ) → Bytes s → shared_fields_of o s ≡ got h fs [] → SharedFieldsSpell Num S t (b ∷ s)
        go None k s y e = never e
        go (Some j) k [] y e = never e
        go (Some j) k (a ∷ s) y e =
            let z : fields_in (SharedField j) (a ∷ s) ≡ h = cc in (
              j,
              a ∷ s,
              ap (λ b. b ∷ a ∷ s) (kind_inv SharedByFields b j k),
              omega arith,
              (fields_part clean num p S good (SharedField j) (some_shared j)).to
                  (a ∷ s) t gs y (subst (λ h. contents p h ≡ got t gs []) (sym z) i) d,
            )

    shared_more : (k : Kind) (s : List ℕ) → 1 ≤ length s → shared_fields_of (Some k) s ≡ got (fields_in (SharedField k) s) [] []
    shared_more k [] l = absurd (omega arith)
    shared_more k (b ∷ s) l = refl

    shared_object_node : Front C (λ s. bind (sized read_shared_fields s) λ h r. whole (contents p h) r) (Sized Num (SharedFieldsSpell Num S))
    shared_object_node = node_sized clean num p read_shared_fields _ shared_fields_to
        (λ b t x. let i = (fields_part clean num p S good (SharedField x.0) (some_shared x.0)).from t x.1 x.4 in
        (fields_in (SharedField x.0) x.1, [], i.0, clean.none, i.1, rw (x.2, kind_rt SharedByFields x.0) (shared_more x.0 x.1 x.3), i.2))

    shared_items_to : (n : ℕ) (b : List ℕ) (h : Head) (fs gs : List Flaw) (t : Node (Standing X)) → Bytes b → read_shared_items n b ≡ got h fs []
        → contents p h ≡ got t gs [] → C gs → SharedItemsSpell Num S n t b
    shared_items_to n [] h fs gs t y e i d = never e
    shared_items_to n (b ∷ s) h fs gs t y e i d = go n (kind_at SharedByItems b) refl e
      where
        bare : (n : ℕ) (j : Kind) → kind_at SharedByItems b ≡ Some j → (x : Bool) → is_bare j ≡ x
            → cond x (fault BadUniform) (got (items_in (SharedItem j) (suc n) s) [] []) ≡ got h fs [] → SharedItemsSpell Num S (suc n) t (b ∷ s)
        bare n j k true m e = never e
        bare n j k false m e =
            let z : items_in (SharedItem j) (suc n) s ≡ h = cc in (
              j,
              s,
              ap (λ b. b ∷ s) (kind_inv SharedByItems b j k),
              omega arith,
              (not_bare_exactly j).0 m,
              (items_part clean num p S good (SharedItem j) (suc n)).to s t gs y.1
                  (subst (λ h. contents p h ≡ got t gs []) (sym z) i) d,
            )

        go : (n : ℕ) (o : Option Kind) → kind_at SharedByItems b ≡ o → shared_items_of n o s ≡ got h fs [] → SharedItemsSpell Num S n t (b ∷ s)
        go n None k e = never e
        go zero (Some j) k e = never e
        go (suc n) (Some j) k e = bare n j k (is_bare j) refl e

    shared_items_from : (n : ℕ) (j : Kind) (w b : List ℕ) → b ≡ type_byte SharedByItems j ∷ w → 1 ≤ n → (Bare j → ⊥)
        → read_shared_items n b ≡ got (items_in (SharedItem j) n w) [] []
    shared_items_from zero j w b e l m = absurd (omega arith)
    shared_items_from (suc n) j w b e l m = rw (e, kind_rt SharedByItems j, (not_bare_exactly j).1 m)

    shared_array_node : Front C (λ s. bind (sized (λ b. bind (read_var_uint b) read_shared_items) s) λ h r. whole (contents p h) r)
        (Sized Num (Behind Num (SharedItemsSpell Num S)))
    shared_array_node = node_sized clean num p (λ b. bind (read_var_uint b) read_shared_items) _
        (λ b h fs gs t y e c i d. bind_got (read_var_uint b) read_shared_items e λ n es q gs' i' j' ef.
        let m = num.to b n es q y i' (clean.left es gs' (subst C ef c)) in
        (n, m.0, q, m.1, m.2, shared_items_to n q h gs' gs t (bytes_right _ m.0 q y m.1) j' i d))
        (λ b t x.
        let y = x.5 in
        let m = num.from x.0 x.1 x.4 x.2 in
        let i = (items_part clean num p S good (SharedItem y.0) x.0).from t y.1 y.5 in (
          items_in (SharedItem y.0) x.0 y.1,
          m.0 ++ [],
          i.0,
          clean.both m.0 [] m.1 clean.none,
          i.1,
          rw (x.3, m.2, shared_items_from x.0 y.0 y.1 x.2 y.2 y.3 y.4)
              (with_put m.0 [] (items_in (SharedItem y.0) x.0 y.1) []),
          i.2,
        ))

    sized_rest : Front C (sized rest) (Sized Num All-of)
    sized_rest = front_sized clean num rest All-of (part_rest clean)

    -- a leaf with nothing in its payload; one that is made; a custom
    bare_leaf : (v : Leaf) → Front C (λ s. bind (make value (got v [] s)) λ h r. whole (contents p h) r) (λ n w. (n ≡ atom v) × (w ≡ []))
    bare_leaf v = front_as clean _ (Made atom (λ b w. (b ≡ v) × (w ≡ []))) (λ n w. (n ≡ atom v) × (w ≡ []))
        (λ n w y i. (i.1 ∙ ap atom i.2.0, i.2.1)) (λ n w i. (v, i.0, (refl, i.1)))
        (leaf_node clean num p (λ s. got v [] s) (λ b w. (b ≡ v) × (w ≡ [])) (front_got clean v))

    made_leaf : {B : Type 0} (g : B → Leaf) (q : List ℕ → Out Leaf) (T : B → List ℕ → Type 0) → Front C q (Made g T)
        → Front C (λ s. bind (make value (q s)) λ h r. whole (contents p h) r) (Made (λ b. atom (g b)) T)
    made_leaf g q T h = front_as clean _ (Made atom (Made g T)) (Made (λ b. atom (g b)) T)
        (λ n w y i. (i.2.0, i.1 ∙ ap atom i.2.1, i.2.2)) (λ n w i. (g i.0, i.1, (i.0, refl, i.2)))
        (leaf_node clean num p q (Made g T) h)

    custom_leaf : {B : Type 0} (g : B → List ℕ → Leaf) (q : List ℕ → Out Leaf) (T : B → List ℕ → Type 0)
        → Front C q (Sized Num (Behind T (λ i. Made (g i) All-of)))
        → Front C (λ s. bind (make value (q s)) λ h r. whole (contents p h) r) (Sized Num (Behind T (λ i. Made (λ b. atom (g i b)) All-of)))
    custom_leaf g q T h =
        front_as clean _ (Made atom (Sized Num (Behind T (λ i. Made (g i) All-of)))) (Sized Num (Behind T (λ i. Made (λ b. atom (g i b)) All-of)))
        (λ n w y i. let j = i.2 in let k = j.4 in (j.0, j.1, j.2, j.3, (k.0, k.1, k.2, k.3, k.4, (k.5.0, i.1 ∙ ap atom k.5.1, k.5.2))))
        (λ n w j. let k = j.4 in (g k.0 k.5.0, k.5.1, (j.0, j.1, j.2, j.3, (k.0, k.1, k.2, k.3, k.4, (k.5.0, refl, k.5.2)))))
        (leaf_node clean num p q (Sized Num (Behind T (λ i. Made (g i) All-of))) h)

    fixed_leaf : (n : ℕ) (g : List ℕ → Leaf)
        → Front C (λ s. bind (make value (make g (fixed n s))) λ h r. whole (contents p h) r) (Made (λ b. atom (g b)) (Exactly n))
    fixed_leaf n g = made_leaf g (λ s. make g (fixed n s)) (Exactly n) (front_make clean g (fixed n) (Exactly n) (front_fixed clean n))

    front_node : (k : Kind) → Front C (read_node p k) (NodeSpells Num S k)
    unfolding head payload
    front_node = elim [
      | Null ↦ bare_leaf null
      | Object ↦ object_node
      | UniformObject ↦ shared_object_node
      | Array ↦ array_node
      | UniformArray ↦ shared_array_node
      | Binary ↦ made_leaf binary (λ s. make binary (sized rest s)) (Sized Num All-of) (front_make clean binary (sized rest) _ sized_rest)
      | String ↦ made_leaf string (λ s. make string (read_text s)) (Sized Num All-of) (front_make clean string read_text _ (front_text clean num))
      | IntegerPositive ↦ made_leaf (λ m. integer (pos m)) (λ s. make (λ m. integer (pos m)) (read_var_uint s)) Num
          (front_make clean (λ m. integer (pos m)) read_var_uint Num num)
      | IntegerNegative ↦ made_leaf (λ m. integer (negsuc m)) read_negative Num
          (front_flag clean (λ m. integer (negsuc m)) (λ m. not (ltb m (2 ^ 63))) Low refl read_var_uint Num num)
      | Float32 ↦ fixed_leaf 4 (λ b. float (float32 (from_bytes b)))
      | Float64 ↦ made_leaf (λ b. float (float64 (from_bytes b))) read_float64 (Exactly 8)
          (front_flag clean (λ b. float (float64 (from_bytes b))) (λ b. holds (from_bytes b)) Wide refl (fixed 8) _ (front_fixed clean 8))
      | False ↦ bare_leaf (bool false)
      | True ↦ bare_leaf (bool true)
      | ObjectAttachment ↦ fixed_leaf 20 object_attachment
      | BinaryAttachment ↦ fixed_leaf 20 binary_attachment
      | Hash ↦ fixed_leaf 20 hash
      | Uuid ↦ fixed_leaf 16 uuid
      | DateTime ↦ fixed_leaf 8 (λ b. date_time (from_twos (from_bytes b)))
      | TimeSpan ↦ fixed_leaf 8 (λ b. time_span (from_twos (from_bytes b)))
      | ObjectId ↦ fixed_leaf 12 object_id
      | CustomById ↦ custom_leaf custom_by_id (sized read_custom_by_id) Num
          (front_sized clean num read_custom_by_id _
          (part_bind clean read_var_uint (λ n r. make (custom_by_id n) (rest r)) Num _ num (λ n. part_make clean (custom_by_id n) rest All-of (part_rest clean))))
      | CustomByName ↦ custom_leaf custom_by_name (sized read_custom_by_name) (Sized Num All-of)
          (front_sized clean num read_custom_by_name _
          (part_bind clean read_text (λ n r. make (custom_by_name n) (rest r)) _ _ (front_text clean num)
          (λ n. part_make clean (custom_by_name n) rest All-of (part_rest clean))))
    ]

    front_field : (g : Form) → Front C (read_field p g) (FieldSpells Num S g)
    front_field g =
        front_as clean (read_field p g) (Behind (FrontSpells Num g) (λ x. Made (λ t. (x.0, (x.1, t))) (NodeSpells Num S x.1))) (FieldSpells Num S g)
        (λ y w _ i. subst (λ y. FieldSpells Num S g y w) (sym i.5.1) (i.1, i.2, i.3, i.4, i.5.2))
        (λ y w i. ((y.0, y.1.0), i.0, i.1, i.2, i.3, (y.1.1, refl, i.4)))
        (front_bind clean (front g) (λ x r. make (λ t. (x.0, (x.1, t))) (read_node p x.1 r)) _ _ (front_front clean num g)
        (λ x. front_make clean (λ t. (x.0, (x.1, t))) (read_node p x.1) _ (front_node x.1)))

  -- ---- every layer

  pub some_field : (d : ℕ) (x : Named (Standing (Layout d))) (w : List ℕ) → Spells Num d Field x w → 1 ≤ length w
  some_field zero x w i = absurd i
  some_field (suc d) x w i = omega (arith, simp length-append at (ap length i.2), ap length i.3.1)

  module _ (num_some : (v : ℕ) (u : List ℕ) → Num v u → 1 ≤ length u) where
    pub some_shared : (d : ℕ) (k : Kind) (x : Named (Standing (Layout d))) (w : List ℕ) → Spells Num d (SharedField k) x w → 1 ≤ length w
    some_shared zero k x w i = absurd i
    some_shared (suc d) k x w i =
        omega (arith, simp length-append at (ap length i.2), simp length-append at (ap length i.3.1.2), num_some _ _ i.3.1.3)

    pub read_spells : (d : ℕ) (g : Form) → Front C (read d g) (Spells Num d g)
    unfolding read
    read_spells zero g = record { to = λ s a fs r y e c. never e; from = λ a w i. absurd i }
    read_spells (suc d) g = front_field (read d) (Spells Num d) (read_spells d) (some_field d) (some_shared d) g
