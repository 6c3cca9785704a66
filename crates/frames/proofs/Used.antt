-- What a field of the list uses up: a part of it, which bounds what the field takes as encoded, and how many containers it has.
use Rattle.std.specs.Prelude.{Some}
use Prim.Native.Nat.{ℕ, zero, suc, ◌+◌, ◌*◌, ◌≤◌}
use native.Mathlib.Omega.{arith}
use mathlib.Core.Path.{◌≡◌, refl, sym, ap, ◌∙◌}
use mathlib.Core.Bool.{Bool, true, false, ◌||◌, cond}
use mathlib.Core.List.{List, [], ◌∷◌, ◌++◌, append_assoc}
use lib.ListN.{length, take, length-append, take-append-drop}
use lib.Seq.{length-take-le}
use lib.Dec.{eqb}
use Rattle.number.proofs.Clash.{clash}
use Rattle.number.specs.BigEndian.{Bytes, to_bytes}
use Rattle.number.proofs.BigEndianLaws.{to_length}
use Rattle.number.proofs.VarUIntLaws.{encoded_length}
use Rattle.float.specs.Rule.{holds}
use Rattle.float.specs.Width.{narrow}
use Rattle.format.specs.declared.Kind.{Kind}
use Rattle.format.specs.declared.Kind.TheVariants.{Null, Object, UniformObject, Array, UniformArray, Binary, String, IntegerPositive, IntegerNegative}
use Rattle.format.specs.declared.Kind.TheVariants.{Float32, Float64, False, True, ObjectAttachment, BinaryAttachment, Hash, Uuid, DateTime, TimeSpan}
use Rattle.format.specs.declared.Kind.TheVariants.{ObjectId, CustomById, CustomByName}
use Rattle.frames.specs.declared.Refusal.TheVariants.{BadFrame, NotText}
use Rattle.format.specs.Kinds.{id, known}
use Rattle.format.specs.Mask.{has}
use Rattle.format.specs.declared.Flaw.{Flaw}
use Rattle.format.specs.declared.Flaw.TheVariants.{Long, Low, NotUtf8}
use Rattle.format.specs.Parse.{Out, fault, got}
use Rattle.format.specs.Payload.{Payload, leaf, fields, shared_fields, items, shared_items, payload}
use Rattle.format.specs.Tree.{Leaf, Node, atom}
use Rattle.format.specs.Encoding.{concat, leaf_payload, node_kind, node_payload, kind_of, payload_of}
use Rattle.frames.specs.WriteList.{refused, framed, next, is_writable, leaf_found, frame_payload, frame, FrameReader, read_frames}
use Rattle.format.proofs.Lists.{bytes_right}
use Rattle.format.proofs.KindLaws.{known_rt}
use Rattle.frames.specs.Container.{node_of, ids, name_part, body, node_packs, packs_of}
use Rattle.run.specs.Run.{shared}
use Rattle.frames.specs.FramePieces.{mode_of, frame_front, contents_by}
use Rattle.frames.proofs.Flaws.{untrue}
use Rattle.frames.proofs.LeafLaws.{bits_of, leaf_got}
use Rattle.frames.proofs.FrontLaws.{never, next_got, Fronted, front_got, frame_front_law}
use Rattle.frames.proofs.ContainerLaws.{node_packs_law, plain, body_length, payload_length, size_le}

-- ---- a leaf that was found

module _ (f : List ℕ) (o : Out Leaf) {v : Leaf} {r : List ℕ} (h : leaf_found f o ≡ framed v r) where
  pub leaf_found_law : {X : Type 0} → ((fs : List Flaw) → o ≡ got v fs r → has Long fs ≡ false → has Low fs ≡ false → has NotUtf8 fs ≡ false → X) → X
  leaf_found_law {X} c = go o refl h
    where
      by : (u : Leaf) (fs : List Flaw) (q : List ℕ) → o ≡ got u fs q → (a b d : Bool) → has Long fs ≡ a → has Low fs ≡ b → has NotUtf8 fs ≡ d
          → cond (a || b) (refused BadFrame f) (cond d (refused NotText f) (framed u q)) ≡ framed v r → X
      by u fs q e true b d ea eb ed h = never h
      by u fs q e false true d ea eb ed h = never h
      by u fs q e false false true ea eb ed h = never h
      by u fs q e false false false ea eb ed h = c fs (cc) ea eb ed

      go : (p : Out Leaf) → o ≡ p → leaf_found f p ≡ framed v r → X
      go (fault k) e h = never h
      go (got u fs q) e h = by u fs q e (has Long fs) (has Low fs) (has NotUtf8 fs) refl refl refl h

-- its payload is no longer than what stands in the list
pub leaf_short : (k : Kind) (p : List ℕ → Out Leaf) → payload k ≡ leaf p → (f s : List ℕ) → Bytes s → {v : Leaf} {r : List ℕ} → leaf_found f (p s) ≡ framed v r
    → (pre : List ℕ) × (s ≡ pre ++ r) × (length (leaf_payload v) ≤ length pre)
leaf_short k p e f s w {v} {r} h = leaf_found_law f (p s) h λ fs y a b c. leaf_got k p e s w y a b c (λ ne z es ek. (leaf_payload v, es, omega arith))
    (λ ek d. (take 8 s, rw d.left (sym (take-append-drop 8 s)), rw (d.bytes, length-take-le 8 s d.enough) (go (holds (bits_of s)) d.enough)))
  where
    go : (x : Bool) → 8 ≤ length s → length (cond x (to_bytes 4 (narrow (bits_of s))) (take 8 s)) ≤ 8
    go true l = omega (arith, to_length 4 (narrow (bits_of s)))
    go false l = omega (arith, length-take-le 8 s l)

-- ---- kinds that open a container

pub kind_object : (k : Kind) → id k ≡ 2 → k ≡ Object
unfolding known
kind_object k e = let z : known 2 ≡ Some k = rw e at (known_rt k) in cc

pub kind_array : (k : Kind) → id k ≡ 4 → k ≡ Array
unfolding known
kind_array k e = let z : known 4 ≡ Some k = rw e at (known_rt k) in cc

-- ---- a field

-- its payload: a leaf, or the frames up to the close
pub payload_case : {A X : Type 0} (p : FrameReader A) (f : List ℕ) (k : Kind) (q : List ℕ) {t : Node A} {r : List ℕ} → is_writable (payload k) ≡ true
    → frame_payload p f (payload k) q ≡ framed t r → ((g : List ℕ → Out Leaf) (v : Leaf) → payload k ≡ leaf g → leaf_found f (g q) ≡ framed v r → t ≡ atom v → X)
    → ((b : Bool) → id k ≡ cond b 2 4 → (xs : List (List ℕ × A)) → contents_by b p (length q) [] q ≡ framed xs r → t ≡ node_of b xs → X) → X
unfolding payload
payload_case {A} {X} p f k q {t} {r} w h c d = by k w h c d
  where
    a_leaf : (k : Kind) (g : List ℕ → Out Leaf) → payload k ≡ leaf g → (next (leaf_found f (g q)) λ v u. framed (atom v) u) ≡ framed t r
        → ((g : List ℕ → Out Leaf) (v : Leaf) → payload k ≡ leaf g → leaf_found f (g q) ≡ framed v r → t ≡ atom v → X) → X
    a_leaf k g e h c = next_got (leaf_found f (g q)) _ h λ v u i j. let y : u ≡ r = cc in c g v e (i ∙ ap (λ (z : List ℕ). framed v z) y) (cc)

    go : (k : Kind) (pl : Payload) → payload k ≡ pl → is_writable pl ≡ true → frame_payload p f pl q ≡ framed t r
        → ((g : List ℕ → Out Leaf) (v : Leaf) → payload k ≡ leaf g → leaf_found f (g q) ≡ framed v r → t ≡ atom v → X)
        → (pl ≡ fields → id k ≡ 2) → (pl ≡ items → id k ≡ 4)
        → ((b : Bool) → id k ≡ cond b 2 4 → (xs : List (List ℕ × A)) → contents_by b p (length q) [] q ≡ framed xs r → t ≡ node_of b xs → X) → X
    go k (leaf g) e w h c i j d = a_leaf k g e h c
    go k fields e w h c i j d =
        next_got (contents_by true p (length q) [] q) _ h λ xs u y z. let v : u ≡ r = cc in d true (i refl) xs (y ∙ ap (λ (z : List ℕ). framed xs z) v) (cc)
    go k shared_fields e w h c i j d = untrue w
    go k items e w h c i j d =
        next_got (contents_by false p (length q) [] q) _ h λ xs u y z. let v : u ≡ r = cc in d false (j refl) xs (y ∙ ap (λ (z : List ℕ). framed xs z) v) (cc)
    go k shared_items e w h c i j d = untrue w

    by : (k : Kind) → is_writable (payload k) ≡ true → frame_payload p f (payload k) q ≡ framed t r
        → ((g : List ℕ → Out Leaf) (v : Leaf) → payload k ≡ leaf g → leaf_found f (g q) ≡ framed v r → t ≡ atom v → X)
        → ((b : Bool) → id k ≡ cond b 2 4 → (xs : List (List ℕ × A)) → contents_by b p (length q) [] q ≡ framed xs r → t ≡ node_of b xs → X) → X
    by k w h c d = go k (payload k) refl w h c (fields_id k) (items_id k) d
      where
        no : {Y : Type 0} {g : List ℕ → Out Leaf} → leaf g ≡ fields → Y
        no z = clash cc

        fields_id : (k : Kind) → payload k ≡ fields → id k ≡ 2
        fields_id = elim [
          | Null ↦ λ z. no z
          | Object ↦ λ z. refl
          | UniformObject ↦ λ z. clash cc
          | Array ↦ λ z. clash cc
          | UniformArray ↦ λ z. clash cc
          | Binary ↦ λ z. no z
          | String ↦ λ z. no z
          | IntegerPositive ↦ λ z. no z
          | IntegerNegative ↦ λ z. no z
          | Float32 ↦ λ z. no z
          | Float64 ↦ λ z. no z
          | False ↦ λ z. no z
          | True ↦ λ z. no z
          | ObjectAttachment ↦ λ z. no z
          | BinaryAttachment ↦ λ z. no z
          | Hash ↦ λ z. no z
          | Uuid ↦ λ z. no z
          | DateTime ↦ λ z. no z
          | TimeSpan ↦ λ z. no z
          | ObjectId ↦ λ z. no z
          | CustomById ↦ λ z. no z
          | CustomByName ↦ λ z. no z
        ]

        not_items : {Y : Type 0} {g : List ℕ → Out Leaf} → leaf g ≡ items → Y
        not_items z = clash cc

        items_id : (k : Kind) → payload k ≡ items → id k ≡ 4
        items_id = elim [
          | Null ↦ λ z. not_items z
          | Object ↦ λ z. clash cc
          | UniformObject ↦ λ z. clash cc
          | Array ↦ λ z. refl
          | UniformArray ↦ λ z. clash cc
          | Binary ↦ λ z. not_items z
          | String ↦ λ z. not_items z
          | IntegerPositive ↦ λ z. not_items z
          | IntegerNegative ↦ λ z. not_items z
          | Float32 ↦ λ z. not_items z
          | Float64 ↦ λ z. not_items z
          | False ↦ λ z. not_items z
          | True ↦ λ z. not_items z
          | ObjectAttachment ↦ λ z. not_items z
          | BinaryAttachment ↦ λ z. not_items z
          | Hash ↦ λ z. not_items z
          | Uuid ↦ λ z. not_items z
          | DateTime ↦ λ z. not_items z
          | TimeSpan ↦ λ z. not_items z
          | ObjectId ↦ λ z. not_items z
          | CustomById ↦ λ z. not_items z
          | CustomByName ↦ λ z. not_items z
        ]

pub frame_case : {A X : Type 0} (p : FrameReader A) (named : Bool) (used : List (List ℕ)) (s : List ℕ) → Bytes s → {x : List ℕ × Node A} {r : List ℕ}
    → frame p (mode_of named used) s ≡ framed x r → ((k : Kind) (q : List ℕ) → frame_front (mode_of named used) s ≡ framed (x.0, k) q
    → Fronted named s (x.0, k) q → frame_payload p s (payload k) q ≡ framed x.1 r → X) → X
frame_case p named used [] w h c = never h
frame_case {A} p named used (b ∷ s) w {x} {r} h c =
    next_got (frame_front (mode_of named used) (b ∷ s)) _ (sym (frame_front_law p (mode_of named used) (b ∷ s) (omega arith)) ∙ h) λ y q e h₁.
    next_got (frame_payload p (b ∷ s) (payload y.1) q) _ h₁ λ t u e₁ h₂.
    let z₀ : y.0 ≡ x.0 = cc in
    let z₁ : t ≡ x.1 = cc in
    let z₂ : u ≡ r = cc in
    let i : frame_front (mode_of named used) (b ∷ s) ≡ framed (x.0, y.1) q = e ∙ ap (λ (n : List ℕ). framed (n, y.1) q) z₀ in
    c y.1 q i (front_got named used (b ∷ s) w i) (cc)

-- ---- what is used up

joined : (s : List ℕ) (b : ℕ) (n q m r : List ℕ) → s ≡ b ∷ (n ++ q) → q ≡ m ++ r → s ≡ (b ∷ (n ++ m)) ++ r
joined s b n q m r e i = e ∙ ap (λ (t : List ℕ). b ∷ (n ++ t)) i ∙ rw append_assoc

pub record Used {A : Type 0} (kind : A → Kind) (pay packs : A → List ℕ) (named : Bool) (s : List ℕ) (x : List ℕ × A) (r : List ℕ) : Type 0 where
  pub pre : List ℕ
  pub all : s ≡ pre ++ r
  pub some : 1 ≤ length pre
  pub small : 1 + length (name_part named x.0) + length (pay x.1) ≤ 10 * length pre
  pub few : length (packs x.1) ≤ length pre
  pub three : named ≡ true → 3 ≤ length pre

abbrev pub Uses : {A : Type 0} → (A → Kind) → (A → List ℕ) → (A → List ℕ) → FrameReader A → Type 0
Uses {A} kind pay packs p = (named : Bool) (used : List (List ℕ)) (s : List ℕ) (x : List ℕ × A) (r : List ℕ) → Bytes s → p (mode_of named used) s ≡ framed x r
    → Used kind pay packs named s x r

module _ {A : Type 0} (kind : A → Kind) (pay packs : A → List ℕ) (p : FrameReader A) (u : Uses kind pay packs p) where
  pub record ContentsUsed (named : Bool) (s : List ℕ) (xs : List (List ℕ × A)) (r : List ℕ) : Type 0 where
    pub pre : List ℕ
    pub all : s ≡ pre ++ r
    pub small : length xs + length (plain kind pay named xs) + 10 ≤ 10 * length pre
    pub few : length (concat (λ x. packs x.1) xs) + 1 ≤ length pre
    pub count : length xs + 1 ≤ length pre

  pub contents_used : (named : Bool) (n : ℕ) (used : List (List ℕ)) (s : List ℕ) (xs : List (List ℕ × A)) (r : List ℕ) → Bytes s
      → contents_by named p n used s ≡ framed xs r → ContentsUsed named s xs r
  contents_used named zero used s xs r w h = never h
  contents_used named (suc n) used [] xs r w h = never h
  contents_used named (suc n) used (b ∷ s) xs r w h = go (λ v q ys t y e. contents_used named n v q ys t y e) (eqb b 0) h
    where
      go : ((v : List (List ℕ)) (q : List ℕ) (ys : List (List ℕ × A)) (t : List ℕ) → Bytes q → contents_by named p n v q ≡ framed ys t
          → ContentsUsed named q ys t) → (z : Bool)
          → cond z (framed [] s) (next (p (mode_of named used) (b ∷ s)) λ x r. next (contents_by named p n (x.0 ∷ used) r) λ xs q. framed (x ∷ xs) q)
          ≡ framed xs r → ContentsUsed named (b ∷ s) xs r
      go ih true h = let e : [] ≡ xs = cc in rw (← e) (record { pre = b ∷ []; all = cc; small = omega arith; few = omega arith; count = omega arith })
      go ih false h = next_got (p (mode_of named used) (b ∷ s)) _ h λ x q e h₁. next_got (contents_by named p n (x.0 ∷ used) q) _ h₁ λ ys t e₁ h₂.
          let a = u named used (b ∷ s) x q w e in
          let i = ih (x.0 ∷ used) q ys t (bytes_right (b ∷ s) a.pre q w a.all) e₁ in
          let z : x ∷ ys ≡ xs = cc in
          rw (← z) (record {
            pre = a.pre ++ i.pre;
            all = rw append_assoc (cc (a.all, i.all));
            small = simp length-append
                (omega (arith, a.small, i.small));
            few = simp length-append (omega (arith, a.few, i.few));
            count = simp length-append
                (omega (arith, a.some, i.count));
          })

  node_used : Uses (node_kind kind) (node_payload kind pay) (node_packs kind pay packs) (frame p)
  node_used named used s x r w h = frame_case p named used s w h λ k q e f g. payload_case p s k q f.good g
      (λ l v el h₁ et.
      let i = leaf_short k l el s q (bytes_right s (id k ∷ name_part named x.0) q w f.is) h₁ in
      rw et (record {
        pre = id k ∷ (name_part named x.0 ++ i.0);
        all = joined s (id k) (name_part named x.0) q i.0 r f.is i.1;
        some = omega arith;
        small = rw length-append (omega (arith, i.2));
        few = omega arith;
        three = λ t. rw length-append (omega (arith, f.some t));
      }))
      (λ b ek xs h₁ et.
      let i = contents_used b (length q) [] q xs r (bytes_right s (id k ∷ name_part named x.0) q w f.is) h₁ in
      let c = shared (ids kind xs) in
      rw et (record {
        pre = id k ∷ (name_part named x.0 ++ i.pre);
        all = joined s (id k) (name_part named x.0) q i.pre r f.is i.all;
        some = omega arith;
        small = rw (payload_length kind pay b xs, length-append (name_part named x.0) i.pre)
            (omega (
              arith,
              i.small,
              body_length kind pay b xs,
              size_le b c (length xs) (length (plain kind pay b xs)),
              (encoded_length
                  (length (body b kind pay xs))).1,
            ));
        few = rw (node_packs_law kind pay packs b xs, length-append (name_part named x.0) i.pre) (omega (arith, i.few));
        three = λ t. rw length-append (omega (arith, f.some t));
      }))

pub read_used : (d : ℕ) → Uses (kind_of d) (payload_of d) (packs_of d) (read_frames d)
unfolding read_frames
read_used zero = λ named used s x r w h. never h
read_used (suc d) = node_used (kind_of d) (payload_of d) (packs_of d) (read_frames d) (read_used d)
