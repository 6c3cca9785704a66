-- A layer by the kind, a field, and every layer stop exactly where specs/Halts.antt says.
use Rattle.std.specs.Prelude.{Option, None, Some}
use Prim.Native.Nat.{ℕ, zero, suc, ◌^◌, ◌≤◌}
use native.Mathlib.Omega.{arith}
use mathlib.Core.Path.{◌≡◌, refl, sym, ap, ◌∙◌}
use mathlib.Core.Logic.{◌⊎◌, inl, inr}
use mathlib.Core.Bool.{Bool, true, false, not, cond}
use mathlib.Core.List.{List, [], ◌∷◌}
use lib.ListN.{length, length-append}
use lib.Dec.{ltb}
use lib.IntN.{pos, negsuc}
use Rattle.number.specs.BigEndian.{Bytes, from_bytes}
use Rattle.number.specs.Signed.{from_twos}
use Rattle.float.specs.Rule.{holds}
use Rattle.format.specs.declared.Kind.{Kind}
use Rattle.format.specs.declared.Kind.TheVariants.{Null, Object, UniformObject, Array, UniformArray, Binary, String, IntegerPositive, IntegerNegative}
use Rattle.format.specs.declared.Kind.TheVariants.{Float32, Float64, False, True, ObjectAttachment, BinaryAttachment, Hash, Uuid, DateTime, TimeSpan}
use Rattle.format.specs.declared.Kind.TheVariants.{ObjectId, CustomById, CustomByName}
use Rattle.format.specs.declared.Mark.TheVariants.{SharedByFields, SharedByItems}
use Rattle.format.specs.declared.Form.{Form}
use Rattle.format.specs.declared.Form.TheVariants.{Field, Item, SharedField, SharedItem}
use Rattle.format.specs.declared.Stop.{Stop}
use Rattle.format.specs.declared.Stop.TheVariants as T
use Rattle.format.specs.Kinds.{type_byte, kind_at, is_bare}
use Rattle.format.specs.declared.Flaw.{Flaw}
use Rattle.format.specs.declared.Flaw.TheVariants.{Low, Wide}
use Rattle.format.specs.Parse.{Out, fault, got, bind, make, whole, read_var_uint, fixed, sized, rest}
use Rattle.format.specs.Names.{read_text}
use Rattle.format.specs.Tree.{Leaf, null, bool, integer, float, binary, string, object_attachment, binary_attachment, hash, uuid, object_id, date_time, time_span}
use Rattle.format.specs.Tree.{custom_by_id, custom_by_name}
use Rattle.format.specs.Payload.{payload, float32, float64, read_negative, read_float64, read_custom_by_id, read_custom_by_name, Head, value, items_in, shared_fields_of}
use Rattle.format.specs.Payload.{read_shared_fields, shared_items_of, read_shared_items, read_fields, read_items, front, head}
use Rattle.format.specs.Reader.{Standing, Named, Reader, contents, read_node, read_field, read}
use Rattle.spelling.specs.Spells.{any_form, Bare, FrontSpells, Spells}
use Rattle.spelling.specs.Halts.{NumberHalts, BytesHalt, TextHalts, SizedHalts, CountedHalts, FrontHalts, FieldsHalt, ItemsHalt, SharedFieldsHalt}
use Rattle.spelling.specs.Halts.{SharedItemsHalt, NodeHalts, FieldHalts, HaltsAt}
use Rattle.format.proofs.KindLaws.{kind_rt, kind_inv}
use Rattle.spelling.proofs.BareKinds.{bare_exactly, not_bare_exactly}
use Rattle.format.proofs.Back.{never}
use Rattle.format.proofs.Local.{bind_got}
use Rattle.spelling.proofs.Grammar.{Front}
use Rattle.spelling.proofs.GrammarFronts.{front_front}
use Rattle.spelling.proofs.GrammarLayer.{some_field, some_shared}
use Rattle.spelling.proofs.SpelledNumbers.{Any, any_clean, any_number, any_some}
use Rattle.spelling.proofs.Spelled.{read_any}
use Rattle.head.proofs.MeetingLaws.{bind_bind}
use Rattle.spelling.proofs.Halting.{Halt, halt_bind, halt_none, halt_then, halt_make, halt_flag, halt_fixed, halt_sized}
use Rattle.spelling.proofs.HaltingNumbers.{halt_number}
use Rattle.spelling.proofs.HaltingFronts.{at_unknown, unknown_at, halt_bytes, halt_text, halt_front, halt_leaf}
use Rattle.spelling.proofs.HaltingContents.{halt_part, fields_halt, items_halt}

-- ---- a head uses up its part

shared_fields_used : (b : List ℕ) (h : Head) (fs : List Flaw) (r : List ℕ) → read_shared_fields b ≡ got h fs r → r ≡ []
shared_fields_used [] h fs r e = never e
shared_fields_used (b ∷ s) h fs r e = go (kind_at SharedByFields b) s e
  where
    go : (o : Option Kind) (s : List ℕ) → shared_fields_of o s ≡ got h fs r → r ≡ []
    go None s e = never e
    go (Some j) [] e = never e
    go (Some j) (a ∷ s) e = cc

items_used : (b : List ℕ) (h : Head) (fs : List Flaw) (r : List ℕ) → read_items b ≡ got h fs r → r ≡ []
items_used b h fs r e = bind_got (read_var_uint b) (λ n r. got (items_in Item n r) [] []) e λ n es q gs i j _. cc

shared_used : (n : ℕ) (b : List ℕ) (h : Head) (fs : List Flaw) (r : List ℕ) → read_shared_items n b ≡ got h fs r → r ≡ []
shared_used n [] h fs r e = never e
shared_used n (b ∷ s) h fs r e = go n (kind_at SharedByItems b) e
  where
    bare : (n : ℕ) (j : Kind) (x : Bool) → cond x (fault T.BadUniform) (got (items_in (SharedItem j) (suc n) s) [] []) ≡ got h fs r → r ≡ []
    bare n j true e = never e
    bare n j false e = cc

    go : (n : ℕ) (o : Option Kind) → shared_items_of n o s ≡ got h fs r → r ≡ []
    go n None e = never e
    go zero (Some j) e = never e
    go (suc n) (Some j) e = bare n j (is_bare j) e

shared_items_used : (b : List ℕ) (h : Head) (fs : List Flaw) (r : List ℕ) → bind (read_var_uint b) read_shared_items ≡ got h fs r → r ≡ []
shared_items_used b h fs r e = bind_got (read_var_uint b) read_shared_items e λ n es q gs i j _. shared_used n q h gs r j

by_id_used : (b : List ℕ) (v : Leaf) (fs : List Flaw) (r : List ℕ) → read_custom_by_id b ≡ got v fs r → r ≡ []
by_id_used b v fs r e = bind_got (read_var_uint b) (λ n r. make (custom_by_id n) (rest r)) e λ n es q gs i j _. cc

by_name_used : (b : List ℕ) (v : Leaf) (fs : List Flaw) (r : List ℕ) → read_custom_by_name b ≡ got v fs r → r ≡ []
by_name_used b v fs r e = bind_got (read_text b) (λ n r. make (custom_by_name n) (rest r)) e λ n es q gs i j _. cc

module _ {X : Type 0} (p : Reader X) where
  -- a count, and what it counts
  halt_counted : (K : ℕ → List ℕ → Out Head) (I : ℕ → Stop → List ℕ → Type 0) → ((n : ℕ) → Halt (λ r. bind (K n r) λ h r. whole (contents p h) r) (I n))
      → Halt (λ b. bind (bind (read_var_uint b) K) λ h r. whole (contents p h) r) (CountedHalts I)
  halt_counted K I i =
      let h = halt_bind read_var_uint (λ n r. bind (K n r) λ h r. whole (contents p h) r) any_form NumberHalts I any_number halt_number i in
      record {
        to = λ s k y e. h.to s k y (sym (bind_bind (read_var_uint s) K (λ h r. whole (contents p h) r)) ∙ e);
        from = λ k s j. bind_bind
            (read_var_uint s) K (λ h r. whole (contents p h) r) ∙ h.from k s j;
      }

  module _ (S : Form → Named (Standing X) → List ℕ → Type 0) (H : Form → Stop → List ℕ → Type 0) (good : (g : Form) → Front Any (p g) (S g))
      (halts : (g : Form) → Halt (p g) (H g))
      (some_field : (x : Named (Standing X)) (w : List ℕ) → S Field x w → 1 ≤ length w)
      (some_shared : (k : Kind) (x : Named (Standing X)) (w : List ℕ) → S (SharedField k) x w → 1 ≤ length w) where
    shared_fields_halt : Halt (λ b. bind (read_shared_fields b) λ h r. whole (contents p h) r) (SharedFieldsHalt H S)
    shared_fields_halt = record { to = to; from = from }
      where
        to : (b : List ℕ) (k : Stop) → Bytes b → bind (read_shared_fields b) (λ h r. whole (contents p h) r) ≡ fault k → SharedFieldsHalt H S k b
        to [] k y e = inl (inl (cc, refl))
        to (b ∷ s) k y e = go (kind_at SharedByFields b) refl s y.1 e
          where
            go : (o : Option Kind) → kind_at SharedByFields b ≡ o → (s : List ℕ) → Bytes s → bind (shared_fields_of o s) (λ h r. whole (contents p h) r) ≡ fault k
                → SharedFieldsHalt H S k (b ∷ s)
            go None i s y e = inl (inr (cc, b, s, refl, at_unknown SharedByFields b i))
            go (Some j) i [] y e = inr (j, [], ap (λ b. b ∷ []) (kind_inv SharedByFields b j i), inl (cc, refl))
            go (Some j) i (a ∷ s) y e =
                inr (
                  j,
                  a ∷ s,
                  ap (λ b. b ∷ a ∷ s) (kind_inv SharedByFields b j i),
                  inr
                      ((fields_halt p S H good halts (SharedField j) (some_shared j)).to (a ∷ s) k y e),
                )

        some : (j : Kind) (t : List ℕ) (k : Stop) → ((k ≡ T.BadUniform) × (t ≡ [])) ⊎ FieldsHalt H S (SharedField j) k t
            → bind (shared_fields_of (Some j) t) (λ h r. whole (contents p h) r) ≡ fault k
        some j t k (inl i) = rw (i.0, i.1)
        some j [] k (inr i) = absurd (omega (arith, i.5, simp length-append at (ap length i.3)))
        some j (a ∷ t) k (inr i) = (fields_halt p S H good halts (SharedField j) (some_shared j)).from k (a ∷ t) i

        from : (k : Stop) (b : List ℕ) → SharedFieldsHalt H S k b → bind (read_shared_fields b) (λ h r. whole (contents p h) r) ≡ fault k
        from k b (inl (inl i)) = rw (i.0, i.1)
        from k b (inl (inr i)) = rw (i.0, i.3, unknown_at SharedByFields i.1 i.4)
        from k b (inr i) = rw (i.2, kind_rt SharedByFields i.0) (some i.0 i.1 k i.3)

    shared_items_halt : (n : ℕ) → Halt (λ b. bind (read_shared_items n b) λ h r. whole (contents p h) r) (SharedItemsHalt H S n)
    shared_items_halt n = record { to = to; from = from }
      where
        to : (b : List ℕ) (k : Stop) → Bytes b → bind (read_shared_items n b) (λ h r. whole (contents p h) r) ≡ fault k → SharedItemsHalt H S n k b
        to [] k y e = inl (inl (cc, refl))
        to (b ∷ s) k y e = go n (kind_at SharedByItems b) refl e
          where
            bare : (n : ℕ) (j : Kind) → b ≡ type_byte SharedByItems j → (x : Bool) → is_bare j ≡ x
                → bind (cond x (fault T.BadUniform) (got (items_in (SharedItem j) (suc n) s) [] [])) (λ h r. whole (contents p h) r) ≡ fault k
                → SharedItemsHalt H S (suc n) k (b ∷ s)
            bare n j i true m e = inr (j, s, ap (λ b. b ∷ s) i, inl (cc, inr ((bare_exactly j).0 m)))
            bare n j i false m e =
                inr (j, s, ap (λ b. b ∷ s) i, inr (omega arith, (not_bare_exactly j).0 m, (items_halt p S H good halts (SharedItem j) (suc n)).to s k y.1 e))

            go : (n : ℕ) (o : Option Kind) → kind_at SharedByItems b ≡ o → bind (shared_items_of n o s) (λ h r. whole (contents p h) r) ≡ fault k
                → SharedItemsHalt H S n k (b ∷ s)
            go n None i e = inl (inr (cc, b, s, refl, at_unknown SharedByItems b i))
            go zero (Some j) i e = inr (j, s, ap (λ b. b ∷ s) (kind_inv SharedByItems b j i), inl (cc, inl refl))
            go (suc n) (Some j) i e = bare n j (kind_inv SharedByItems b j i) (is_bare j) refl e

        some : (n : ℕ) (j : Kind) (t : List ℕ) (k : Stop)
            → ((k ≡ T.BadUniform) × ((n ≡ 0) ⊎ Bare j)) ⊎ ((1 ≤ n) × (Bare j → ⊥) × ItemsHalt H S (SharedItem j) n k t)
            → bind (shared_items_of n (Some j) t) (λ h r. whole (contents p h) r) ≡ fault k
        some zero j t k (inl i) = rw i.0
        some zero j t k (inr i) = absurd (omega (arith, i.0))
        some (suc n) j t k (inl i) = go i.0 i.1
          where
            go : k ≡ T.BadUniform → (suc n ≡ 0) ⊎ Bare j → bind (shared_items_of (suc n) (Some j) t) (λ h r. whole (contents p h) r) ≡ fault k
            go e (inl z) = absurd (omega (arith, z))
            go e (inr m) = rw (e, (bare_exactly j).1 m)
        some (suc n) j t k (inr i) = rw ((not_bare_exactly j).1 i.1) ((items_halt p S H good halts (SharedItem j) (suc n)).from k t i.2)

        from : (k : Stop) (b : List ℕ) → SharedItemsHalt H S n k b → bind (read_shared_items n b) (λ h r. whole (contents p h) r) ≡ fault k
        from k b (inl (inl i)) = rw (i.0, i.1)
        from k b (inl (inr i)) = rw (i.0, i.3, unknown_at SharedByItems i.1 i.4)
        from k b (inr i) = rw (i.2, kind_rt SharedByItems i.0) (some n i.0 i.1 k i.3)

    halt_node : (k : Kind) → Halt (read_node p k) (NodeHalts H S k)
    unfolding head payload
    halt_node = elim [
      | Null ↦ halt_leaf p (λ s. got null [] s) (λ k s. ⊥) (halt_none (λ s. got null [] s) (λ s k e. never (sym e)))
      | Object ↦ halt_part p read_fields (FieldsHalt H S Field) (λ b h fs r e. cc) (fields_halt p S H good halts Field some_field)
      | UniformObject ↦ halt_part p read_shared_fields (SharedFieldsHalt H S) shared_fields_used shared_fields_halt
      | Array ↦ halt_part p read_items (CountedHalts (ItemsHalt H S Item)) items_used
          (halt_counted (λ n r. got (items_in Item n r) [] []) (ItemsHalt H S Item) (items_halt p S H good halts Item))
      | UniformArray ↦ halt_part p (λ b. bind (read_var_uint b) read_shared_items) (CountedHalts (SharedItemsHalt H S)) shared_items_used
          (halt_counted read_shared_items (SharedItemsHalt H S) shared_items_halt)
      | Binary ↦ halt_leaf p (λ s. make binary (sized rest s)) TextHalts (halt_make binary (sized rest) TextHalts halt_bytes)
      | String ↦ halt_leaf p (λ s. make string (read_text s)) TextHalts (halt_make string read_text TextHalts halt_text)
      | IntegerPositive ↦ halt_leaf p (λ s. make (λ m. integer (pos m)) (read_var_uint s)) NumberHalts
          (halt_make (λ m. integer (pos m)) read_var_uint NumberHalts halt_number)
      | IntegerNegative ↦ halt_leaf p read_negative NumberHalts
          (halt_flag (λ m. integer (negsuc m)) (λ m. not (ltb m (2 ^ 63))) Low read_var_uint NumberHalts halt_number)
      | Float32 ↦ bytes_halt 4 (λ b. float (float32 (from_bytes b)))
      | Float64 ↦ halt_leaf p read_float64 (BytesHalt 8)
          (halt_flag (λ b. float (float64 (from_bytes b))) (λ b. holds (from_bytes b)) Wide (fixed 8) (BytesHalt 8) (halt_fixed 8))
      | False ↦ halt_leaf p (λ s. got (bool false) [] s) (λ k s. ⊥) (halt_none (λ s. got (bool false) [] s) (λ s k e. never (sym e)))
      | True ↦ halt_leaf p (λ s. got (bool true) [] s) (λ k s. ⊥) (halt_none (λ s. got (bool true) [] s) (λ s k e. never (sym e)))
      | ObjectAttachment ↦ bytes_halt 20 object_attachment
      | BinaryAttachment ↦ bytes_halt 20 binary_attachment
      | Hash ↦ bytes_halt 20 hash
      | Uuid ↦ bytes_halt 16 uuid
      | DateTime ↦ bytes_halt 8 (λ b. date_time (from_twos (from_bytes b)))
      | TimeSpan ↦ bytes_halt 8 (λ b. time_span (from_twos (from_bytes b)))
      | ObjectId ↦ bytes_halt 12 object_id
      | CustomById ↦ halt_leaf p (sized read_custom_by_id) (SizedHalts NumberHalts)
          (halt_sized halt_number read_custom_by_id NumberHalts by_id_used
          (halt_then read_var_uint (λ n r. make (custom_by_id n) (rest r)) NumberHalts (λ n r k e. never (sym e)) halt_number))
      | CustomByName ↦ halt_leaf p (sized read_custom_by_name) (SizedHalts TextHalts)
          (halt_sized halt_number read_custom_by_name TextHalts by_name_used
          (halt_then read_text (λ n r. make (custom_by_name n) (rest r)) TextHalts (λ n r k e. never (sym e)) halt_text))
    ]
      where
        bytes_halt : (n : ℕ) (g : List ℕ → Leaf) → Halt (λ s. bind (make value (make g (fixed n s))) λ h r. whole (contents p h) r) (BytesHalt n)
        bytes_halt n g = halt_leaf p (λ s. make g (fixed n s)) (BytesHalt n) (halt_make g (fixed n) (BytesHalt n) (halt_fixed n))

    halt_field : (g : Form) → Halt (read_field p g) (FieldHalts H S g)
    halt_field g =
        halt_bind (front g) (λ x r. make (λ t. (x.0, (x.1, t))) (read_node p x.1 r)) (FrontSpells any_form g) (FrontHalts g) (λ x. NodeHalts H S x.1)
        (front_front any_clean any_number g) (halt_front g)
        (λ x. halt_make (λ t. (x.0, (x.1, t))) (read_node p x.1) (NodeHalts H S x.1) (halt_node x.1))

-- every layer
pub read_halts : (d : ℕ) (g : Form) → Halt (read d g) (HaltsAt d g)
unfolding read
read_halts zero g = record { to = λ s k y e. cc; from = λ k s i. rw i }
read_halts (suc d) g =
    halt_field (read d) (Spells any_form d) (HaltsAt d) (read_any d) (read_halts d) (some_field any_clean any_number d)
    (some_shared any_clean any_number any_some d) g
