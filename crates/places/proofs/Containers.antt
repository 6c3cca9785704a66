-- How a container opens, and how its fields stand in it.
use Prim.Native.Nat.{ℕ}
use mathlib.Core.Path.{◌≡◌, refl, ap, ◌∙◌}
use mathlib.Core.Logic.{◌⊎◌, inl, inr}
use mathlib.Core.List.{List, [], ◌∷◌, ◌++◌, append_assoc}
use lib.ListN.{length, length-append}
use Rattle.number.specs.BigEndian.{All}
use Rattle.format.specs.declared.Kind.{Kind}
use Rattle.format.specs.declared.Kind.TheVariants.{Null, Object, UniformObject, Array, UniformArray, Binary, String, IntegerPositive, IntegerNegative}
use Rattle.format.specs.declared.Kind.TheVariants.{Float32, Float64, False, True, ObjectAttachment, BinaryAttachment, Hash, Uuid, DateTime, TimeSpan}
use Rattle.format.specs.declared.Kind.TheVariants.{ObjectId, CustomById, CustomByName}
use Rattle.format.specs.declared.Mark.TheVariants.{SharedByFields, SharedByItems}
use Rattle.format.specs.declared.Form.{Form}
use Rattle.format.specs.declared.Form.TheVariants.{Field, Item, SharedField, SharedItem}
use Rattle.format.specs.Kinds.{type_byte}
use Rattle.format.specs.declared.Flaw.{Flaw}
use Rattle.format.specs.Parse.{Out, got, bind, make, read_var_uint}
use Rattle.format.specs.Tree.{Leaf}
use Rattle.format.specs.Payload.{leaf, payload, Head, value, fields_in, items_in, read_shared_fields, read_shared_items, read_fields}
use Rattle.format.specs.Payload.{read_items, head}
use Rattle.places.specs.Show.{Opens, Before}
use Rattle.format.proofs.Lists.{append_nil}
use Rattle.format.proofs.SharedKind.{shared_fields_got, shared_items_got}
use Rattle.format.proofs.Local.{bind_got, local_number}
use Rattle.places.proofs.FieldBytes.{sized_read, Stood, Unnamed, Sharing}

-- ---- what the head of a payload s tells, before the contents b and what follows

pub record Holds (k : Kind) (s : List ℕ) (f : Form) (b r : List ℕ) (Counted : List Kind → Type 0) : Type 0 where
  pub opening : List ℕ
  pub splits : s ≡ opening ++ (b ++ r)
  pub opens : (ks : List Kind) → Counted ks → All (Sharing f) ks → Opens (payload k) ks (length b) opening
  pub stands : (j : Kind) (n w : List ℕ) → Stood f j n w → Before (payload k) j n w

-- a leaf's kind; or a container's, with its contents, in which an array's items are counted and have no names
abbrev pub Contained : Kind → List ℕ → Head → List ℕ → Type 0
Contained k s (value v) r = (p : List ℕ → Out Leaf) × (payload k ≡ leaf p)
Contained k s (fields_in f b) r = ((k ≡ Object) ⊎ (k ≡ UniformObject)) × Holds k s f b r (λ ks. Unit {0})
Contained k s (items_in f n b) r = ((k ≡ Array) ⊎ (k ≡ UniformArray)) × Holds k s f b r (λ ks. length ks ≡ n) × Unnamed f

leaf_contained : (k : Kind) (p : List ℕ → Out Leaf) (s : List ℕ) {h : Head} {fs : List Flaw} {r : List ℕ} → payload k ≡ leaf p
    → head k s ≡ got h fs r → Contained k s h r
unfolding head
leaf_contained k p s {h} {fs} {r} i e =
    let j : make value (p s) ≡ got h fs r = rw i at e in
    bind_got (p s) (λ v q. got (value v) [] q) j λ v es q gs _ l _. let z : h ≡ value v = cc in rw z (p, i)

-- ---- behind the size

abbrev SharedFields : List ℕ → Head → Type 0
SharedFields b h = (j : Kind) × (c : List ℕ) × (h ≡ fields_in (SharedField j) c) × (b ≡ type_byte SharedByFields j ∷ c)

shared_fields_is : (b : List ℕ) {h : Head} {gs : List Flaw} → read_shared_fields b ≡ got h gs [] → SharedFields b h
shared_fields_is b e = shared_fields_got b e λ k c s t z. (k, c ∷ s, z, t)

abbrev SharedItems : ℕ → List ℕ → Head → Type 0
SharedItems n b h = (j : Kind) × (c : List ℕ) × (h ≡ items_in (SharedItem j) n c) × (b ≡ type_byte SharedByItems j ∷ c)

shared_items_is : (n : ℕ) (b : List ℕ) {h : Head} {gs : List Flaw} → read_shared_items n b ≡ got h gs [] → SharedItems n b h
shared_items_is n b {h} e = shared_items_got n b e λ k m s i t _ z. (k, s, rw i z, t)

-- ---- the four containers

module _ (s : List ℕ) {h : Head} {fs : List Flaw} {r : List ℕ} where
  object_contained : head Object s ≡ got h fs r → Contained Object s h r
  unfolding head payload
  object_contained e = sized_read read_fields s e λ w b gs i es f _ _.
      let z : h ≡ fields_in Field b = cc in
      rw z (inl refl, record { opening = w; splits = es; opens = λ ks _ _. f; stands = λ j n w t. t })

  uniform_object_contained : head UniformObject s ≡ got h fs r → Contained UniformObject s h r
  unfolding head payload
  uniform_object_contained e = sized_read read_shared_fields s e λ w b gs i es f _ _.
      let z = shared_fields_is b i in
      let t = type_byte SharedByFields z.0 in
      rw z.2 (
        inr refl,
        record {
          opening = w ++ (t ∷ []);
          splits = rw (append_assoc w (t ∷ []) (z.1 ++ r)) (rw z.3 at es);
          opens = λ ks _ l. (w, z.0, refl, rw z.3 at f, l);
          stands = λ j n w t. t;
        },
      )

  array_contained : head Array s ≡ got h fs r → Contained Array s h r
  unfolding head payload
  array_contained e = sized_read read_items s e λ w b gs i es f _ _. bind_got (read_var_uint b) _ i λ n ns q gs' i' k _.
      let z : h ≡ items_in Item n q = cc in
      let x = local_number b n ns q i' in
      rw z (
        inl refl,
        record {
          opening = w ++ x.0;
          splits = rw (append_assoc w x.0 (q ++ r), ← append_assoc x.0 q r) (rw x.1 at es);
          opens = λ ks l _. (w, x.0, refl, rw (← length-append x.0 q) (rw x.1 at f), (ns, rw (l, ← append_nil x.0) (x.2 [])));
          stands = λ j n w t. t;
        },
        tt,
      )

  uniform_array_contained : head UniformArray s ≡ got h fs r → Contained UniformArray s h r
  unfolding head payload
  uniform_array_contained e = sized_read (λ b. bind (read_var_uint b) read_shared_items) s e λ w b gs i es f _ _. bind_got (read_var_uint b) _ i λ n ns q gs' i' k _.
      let x = local_number b n ns q i' in
      let z = shared_items_is n q k in
      let t = type_byte SharedByItems z.0 in
      let y : b ≡ x.0 ++ (t ∷ z.1) = x.1 ∙ ap (λ v. x.0 ++ v) z.3 in
      rw z.2 (
        inr refl,
        record {
          opening = w ++ (x.0 ++ (t ∷ []));
          splits =
              rw (append_assoc w (x.0 ++ (t ∷ [])) (z.1 ++ r), append_assoc x.0 (t ∷ []) (z.1 ++ r), ← append_assoc x.0 (t ∷ z.1) r) (rw y at es);
          opens = λ ks l m. (w, x.0, z.0, refl, rw (← length-append x.0 (t ∷ z.1)) (rw y at f), (ns, rw (l, ← append_nil x.0) (x.2 [])), m);
          stands = λ j n w t. t;
        },
        tt,
      )

pub head_contained : (k : Kind) (s : List ℕ) {h : Head} {fs : List Flaw} {r : List ℕ} → head k s ≡ got h fs r → Contained k s h r
unfolding head payload
head_contained Null s e = leaf_contained Null _ s refl e
head_contained Object s e = object_contained s e
head_contained UniformObject s e = uniform_object_contained s e
head_contained Array s e = array_contained s e
head_contained UniformArray s e = uniform_array_contained s e
head_contained Binary s e = leaf_contained Binary _ s refl e
head_contained String s e = leaf_contained String _ s refl e
head_contained IntegerPositive s e = leaf_contained IntegerPositive _ s refl e
head_contained IntegerNegative s e = leaf_contained IntegerNegative _ s refl e
head_contained Float32 s e = leaf_contained Float32 _ s refl e
head_contained Float64 s e = leaf_contained Float64 _ s refl e
head_contained False s e = leaf_contained False _ s refl e
head_contained True s e = leaf_contained True _ s refl e
head_contained ObjectAttachment s e = leaf_contained ObjectAttachment _ s refl e
head_contained BinaryAttachment s e = leaf_contained BinaryAttachment _ s refl e
head_contained Hash s e = leaf_contained Hash _ s refl e
head_contained Uuid s e = leaf_contained Uuid _ s refl e
head_contained DateTime s e = leaf_contained DateTime _ s refl e
head_contained TimeSpan s e = leaf_contained TimeSpan _ s refl e
head_contained ObjectId s e = leaf_contained ObjectId _ s refl e
head_contained CustomById s e = leaf_contained CustomById _ s refl e
head_contained CustomByName s e = leaf_contained CustomByName _ s refl e
