-- A layer's contents: a leaf, a part behind its size, items that are counted and fields that fill, read just as the grammar spells them.
use Prim.Native.Nat.{ℕ, ◌≤◌}
use native.Mathlib.Omega.{arith}
use mathlib.Core.Path.{◌≡◌, refl, sym, ap, subst, ◌∙◌}
use mathlib.Core.Bool.{◌&&◌}
use mathlib.Core.List.{List, [], ◌++◌, map}
use lib.ListN.{length}
use Rattle.number.specs.BigEndian.{Bytes}
use Rattle.format.specs.declared.Form.{Form}
use Rattle.format.specs.Kinds.{is_uniform, is_uniform_array}
use Rattle.format.specs.declared.Flaw.{Flaw}
use Rattle.format.specs.declared.Flaw.TheVariants.{Twin, NotUniform}
use Rattle.format.specs.Parse.{Out, got, bind, raise, make, whole, read_var_uint, sized, many, fill}
use Rattle.format.specs.Names.{twins}
use Rattle.format.specs.Tree.{Leaf, Node, atom, array, object}
use Rattle.format.specs.Payload.{Head, value, fields_in, items_in}
use Rattle.format.specs.Reader.{Standing, Named, Reader, kinds_in, names_in, is_typed, as_array, as_object, contents}
use Rattle.spelling.specs.Spells.{Made, Behind, Run, Sized, FieldsSpell, ItemsSpell}
use Rattle.format.proofs.Lists.{append_nil, bytes_right}
use Rattle.format.proofs.Local.{bind_got, raise_got}
use Rattle.spelling.proofs.Grammar.{Clean, Front, Part, front_as, front_bind, front_make, front_sized, front_whole, raise_from, put}
use Rattle.spelling.proofs.GrammarRuns.{front_many, fill_to, fill_from}

module _ {C : List Flaw → Type 0} (clean : Clean C) {Num : ℕ → List ℕ → Type 0} (num : Front C read_var_uint Num) {X : Type 0} (p : Reader X) where
  pub leaf_node : (q : List ℕ → Out Leaf) (L : Leaf → List ℕ → Type 0) → Front C q L
      → Front C (λ s. bind (make value (q s)) λ h r. whole (contents p h) r) (Made atom L)
  leaf_node q L h =
      front_as clean _ (Behind (Made value L) (λ h t w. (w ≡ []) × (gs : List Flaw) × C gs × (contents p h ≡ got t gs []))) (Made atom L) out back
      (front_bind clean (λ s. make value (q s)) (λ h r. whole (contents p h) r) _ _ (front_make clean value q L h) (λ h. front_whole clean (contents p h)))
    where
      out : (t : Node (Standing X)) (w : List ℕ) → Bytes w
          → Behind (Made value L) (λ h t w. (w ≡ []) × (gs : List Flaw) × C gs × (contents p h ≡ got t gs [])) t w → Made atom L t w
      out t w y i =
          let e : got (atom i.4.0) [] [] ≡ got t i.5.1 [] = subst (λ h. contents p h ≡ got t i.5.1 []) i.4.1 i.5.3 in
          (i.4.0, cc, subst (L i.4.0) (sym (i.3 ∙ (ap (λ z. i.1 ++ z) i.5.0 ∙ append_nil i.1))) i.4.2)

      back : (t : Node (Standing X)) (w : List ℕ) → Made atom L t w
          → Behind (Made value L) (λ h t w. (w ≡ []) × (gs : List Flaw) × C gs × (contents p h ≡ got t gs [])) t w
      back t w i = (value i.0, w, [], sym (append_nil w), (i.0, refl, i.2), (refl, [], clean.none, ap (λ t. got t [] []) (sym i.1)))

  -- a part that is a head's, and then its contents
  pub node_sized : (q : List ℕ → Out Head) (T : Node (Standing X) → List ℕ → Type 0)
      → ((b : List ℕ) (h : Head) (fs gs : List Flaw) (t : Node (Standing X)) → Bytes b → q b ≡ got h fs [] → C fs → contents p h ≡ got t gs [] → C gs → T t b)
      → ((b : List ℕ) (t : Node (Standing X)) → T t b → (h : Head) × (fs gs : List Flaw) × C fs × C gs × (q b ≡ got h fs []) × (contents p h ≡ got t gs []))
      → Front C (λ s. bind (sized q s) λ h r. whole (contents p h) r) (Sized Num T)
  node_sized q T to from = front_as clean _ (Behind (Sized Num H) K) (Sized Num T) out back
      (front_bind clean (sized q) (λ h r. whole (contents p h) r) _ _ (front_sized clean num q H part) (λ h. front_whole clean (contents p h)))
    where
      H : Head → List ℕ → Type 0
      H h b = (fs : List Flaw) × C fs × (q b ≡ got h fs [])

      K : Head → Node (Standing X) → List ℕ → Type 0
      K h t w = (w ≡ []) × (gs : List Flaw) × C gs × (contents p h ≡ got t gs [])

      part : Part C q H
      part = record { to = λ b h fs y e c. (fs, c, e); from = λ h b i. i }

      out : (t : Node (Standing X)) (w : List ℕ) → Bytes w → Behind (Sized Num H) K t w → Sized Num T t w
      out t w y i =
          let e : w ≡ i.4.0 ++ i.4.1 = i.3 ∙ (ap (λ z. i.1 ++ z) i.5.0 ∙ (append_nil i.1 ∙ i.4.2)) in (
            i.4.0,
            i.4.1,
            e,
            i.4.3,
            to i.4.1 i.0 i.4.4.0 i.5.1 t (bytes_right _ i.4.0 i.4.1 y e) i.4.4.2 i.4.4.1
                i.5.3 i.5.2,
          )

      back : (t : Node (Standing X)) (w : List ℕ) → Sized Num T t w → Behind (Sized Num H) K t w
      back t w i = let j = from i.1 t i.4 in (j.0, w, [], sym (append_nil w), (i.0, i.1, i.2, i.3, (j.1, j.3, j.5)), (refl, j.2, j.4, j.6))

  module _ (S : Form → Named (Standing X) → List ℕ → Type 0) (good : (g : Form) → Front C (p g) (S g)) where
    pub items_part : (g : Form) (n : ℕ) → Part C (λ b. contents p (items_in g n b)) (ItemsSpell Num S g n)
    items_part g n = record {
      to = λ b t fs y e c. bind_got (many (p g) n b) (as_array g) e λ xs es q gs i j ef. raise_got (is_typed g && is_uniform_array (kinds_in xs)) NotUniform
          (got (array (map (λ x. x.1) xs)) [] q) j λ hs k.
          let m = (front_many clean (p g) (S g) (good g) n).to b xs es q y i (clean.left es gs (subst C ef c)) in
          let z : q ≡ [] = cc in
          (xs, cc, m.2.0, subst (Run (S g) xs) (sym (m.1 ∙ (ap (λ q. m.0 ++ q) z ∙ append_nil m.0))) m.2.1);
      from = λ t b x.
          let m = (front_many clean (p g) (S g) (good g) n).from x.0 b (x.2, x.3) [] in
          let e : many (p g) n b ≡ got x.0 m.0 [] = subst (λ b. many (p g) n b ≡ got x.0 m.0 []) (append_nil b) m.2 in
          let o =
          raise_from clean (is_typed g && is_uniform_array (kinds_in x.0)) NotUniform refl (got (array (map (λ x. x.1) x.0)) [] [])
          (array (map (λ x. x.1) x.0)) [] ([], clean.none, refl) in
          put clean (many (p g) n b) (as_array g) x.0 (array (map (λ x. x.1) x.0)) t m.0 m.1 o.0 o.1 e o.2 x.1;
    }

    pub fields_part : (g : Form) → ((x : Named (Standing X)) (w : List ℕ) → S g x w → 1 ≤ length w)
        → Part C (λ b. contents p (fields_in g b)) (FieldsSpell Num S g)
    fields_part g some = record {
      to = λ b t fs y e c. bind_got (fill (p g) (length b) b) (as_object g) e λ xs es q gs i j ef. raise_got (is_typed g && is_uniform (kinds_in xs)) NotUniform
          (raise (twins (names_in xs)) Twin (got (object xs) [] q)) j λ hs k. raise_got (twins (names_in xs)) Twin (got (object xs) [] q) k λ hs' k'.
          let m = fill_to clean (p g) (S g) (good g) (length b) b xs es q y i (clean.left es gs (subst C ef c)) in
          (xs, cc, m.1);
      from = λ t b x.
          let m = fill_from clean (p g) (S g) (good g) some (length b) x.0 b x.2 (omega arith) in
          let o =
          raise_from clean (is_typed g && is_uniform (kinds_in x.0)) NotUniform refl (raise (twins (names_in x.0)) Twin (got (object x.0) [] []))
          (object x.0) [] (raise_from clean (twins (names_in x.0)) Twin refl (got (object x.0) [] []) (object x.0) [] ([], clean.none, refl)) in
          put clean (fill (p g) (length b) b) (as_object g) x.0 (object x.0) t m.0 m.1 o.0 o.1 m.2 o.2 x.1;
    }
