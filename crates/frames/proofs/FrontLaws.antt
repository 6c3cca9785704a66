-- A frame up to its payload: what stands there as the encoding has it, and that a refusal carries the frame.
use Rattle.std.specs.Prelude.{Option, None, Some}
use Prim.Native.Nat.{ℕ, ◌≤◌, ◌<◌}
use native.Mathlib.Omega.{arith}
use mathlib.Core.Path.{◌≡◌, refl, sym, ◌∙◌}
use mathlib.Core.Bool.{Bool, true, false, cond}
use mathlib.Core.Option.{Option as Optional, none, some}
use mathlib.Core.List.{List, [], ◌∷◌, ◌++◌}
use lib.ListN.{length, length-append}
use lib.Dec.{eqb}
use borrow.Author.Tests.{eqb-true, eqb-false}
use Rattle.number.proofs.Clash.{clash}
use Rattle.number.specs.BigEndian.{Bytes}
use Rattle.number.proofs.VarUIntLaws.{encoded_length}
use Rattle.text.specs.Equal.{equal}
use Rattle.format.specs.declared.Kind.{Kind}
use Rattle.format.specs.declared.Kind.TheVariants.{Null, Object, UniformObject, Array, UniformArray, Binary, String, IntegerPositive, IntegerNegative}
use Rattle.format.specs.declared.Kind.TheVariants.{Float32, Float64, False, True, ObjectAttachment, BinaryAttachment, Hash, Uuid, DateTime, TimeSpan}
use Rattle.format.specs.declared.Kind.TheVariants.{ObjectId, CustomById, CustomByName}
use Rattle.frames.specs.declared.Refusal.{Refusal}
use Rattle.frames.specs.declared.Refusal.TheVariants.{BadFrame, EmptyName, NameUsed, NotText}
use Rattle.format.specs.Kinds.{id, known, any}
use Rattle.format.specs.Mask.{has}
use Rattle.format.specs.declared.Flaw.{Flaw}
use Rattle.format.specs.declared.Flaw.TheVariants.{Long, Blank, NotUtf8}
use Rattle.format.specs.Parse.{Out, fault, got}
use Rattle.format.specs.Names.{is_empty, read_name}
use Rattle.format.specs.Payload.{payload}
use Rattle.format.specs.Encoding.{with_size}
use Rattle.frames.specs.WriteList.{Frames, refused, framed, next, is_writable, frame_kind, frame_name, name_found, frame_payload, frame, FrameReader}
use Rattle.format.proofs.KindLaws.{known_inv}
use Rattle.format.proofs.TextLaws.{name_case}
use Rattle.frames.specs.Container.{name_part}
use Rattle.frames.specs.FramePieces.{writable, mode_of, frame_front, IsLeaf, container_of}
use Rattle.frames.proofs.Flaws.{untrue, name_clean}

pub never : {A X : Type 0} {n : Refusal} {r q : List ℕ} {a : A} → refused n r ≡ framed a q → X
never h = clash cc

pub next_got : {A B X : Type 0} (o : Frames A) (g : A → List ℕ → Frames B) {b : B} {r : List ℕ} → next o g ≡ framed b r
    → ((a : A) (q : List ℕ) → o ≡ framed a q → g a q ≡ framed b r → X) → X
next_got (refused n r) g h c = never h
next_got (framed a q) g h c = c a q refl h

-- ---- the kind

writable_kind : (k : Kind) → (id k ≡ 3 → ⊥) → (id k ≡ 5 → ⊥) → is_writable (payload k) ≡ true
unfolding payload
writable_kind Null g h = refl
writable_kind Object g h = refl
writable_kind UniformObject g h = absurd (g refl)
writable_kind Array g h = refl
writable_kind UniformArray g h = absurd (h refl)
writable_kind Binary g h = refl
writable_kind String g h = refl
writable_kind IntegerPositive g h = refl
writable_kind IntegerNegative g h = refl
writable_kind Float32 g h = refl
writable_kind Float64 g h = refl
writable_kind False g h = refl
writable_kind True g h = refl
writable_kind ObjectAttachment g h = refl
writable_kind BinaryAttachment g h = refl
writable_kind Hash g h = refl
writable_kind Uuid g h = refl
writable_kind DateTime g h = refl
writable_kind TimeSpan g h = refl
writable_kind ObjectId g h = refl
writable_kind CustomById g h = refl
writable_kind CustomByName g h = refl

-- what `writable` says
abbrev pub kind_by : List ℕ → Option Kind → List ℕ → Frames Kind
kind_by f None s = refused BadFrame f
kind_by f (Some k) s = framed k s

pub kind_is : (b : ℕ) (f s : List ℕ) → frame_kind f (known b) s ≡ kind_by f (writable b) s
unfolding writable known payload
kind_is b f s = go (eqb b 3) refl (eqb b 5) refl
  where
    other : (b ≡ 3 → ⊥) → (b ≡ 5 → ⊥) → (o : Option Kind) → known b ≡ o → frame_kind f o s ≡ kind_by f o s
    other g h None e = refl
    other g h (Some k) e = let i = known_inv b k e in rw (writable_kind k (λ z. g (i ∙ z)) (λ z. h (i ∙ z)))

    go : (x : Bool) → eqb b 3 ≡ x → (y : Bool) → eqb b 5 ≡ y → frame_kind f (known b) s ≡ kind_by f (cond x None (cond y None (known b))) s
    go true e y i = let z = eqb-true b 3 e in rw z
    go false e true i = let z = eqb-true b 5 i in rw z
    go false e false i = other (eqb-false b 3 e) (eqb-false b 5 i) (known b) refl

-- ---- what stands before the payload

pub record Fronted (named : Bool) (s : List ℕ) (x : List ℕ × Kind) (q : List ℕ) : Type 0 where
  pub is : s ≡ id x.1 ∷ (name_part named x.0 ++ q)
  pub good : is_writable (payload x.1) ≡ true
  pub some : named ≡ true → 2 ≤ length (name_part named x.0)
  pub name : (b : ℕ) (t : List ℕ) → s ≡ b ∷ t → named ≡ true → read_name t ≡ got x.0 [] q

-- a name that was found
name_found_law : (f : List ℕ) (used : List (List ℕ)) (s : List ℕ) → Bytes s → {n q : List ℕ} → name_found f used (read_name s) ≡ framed n q
    → (read_name s ≡ got n [] q) × (any (equal n) used ≡ false) × (s ≡ with_size n ++ q) × (is_empty n ≡ false)
name_found_law f used s w {n} {q} h = go (read_name s) refl h
  where
    by : (m : List ℕ) (fs : List Flaw) (r : List ℕ) → read_name s ≡ got m fs r → (a b c d : Bool) → has Long fs ≡ a → has Blank fs ≡ b
        → has NotUtf8 fs ≡ c → any (equal m) used ≡ d
        → cond a (refused BadFrame f) (cond b (refused EmptyName f) (cond c (refused NotText f) (cond d (refused NameUsed f) (framed m r)))) ≡ framed n q
        → (read_name s ≡ got n [] q) × (any (equal n) used ≡ false) × (s ≡ with_size n ++ q) × (is_empty n ≡ false)
    by m fs r e true b c d ea eb ec ed h = never h
    by m fs r e false true c d ea eb ec ed h = never h
    by m fs r e false false true d ea eb ec ed h = never h
    by m fs r e false false false true ea eb ec ed h = never h
    by m fs r e false false false false ea eb ec ed h =
        let z : m ≡ n = cc in
        let y : r ≡ q = cc in
        let i : read_name s ≡ got n [] q = cc (e, name_clean s e ea eb ec, z, y) in
        (i, rw z at ed, name_case s w i (λ es en wq. es), name_case s w i (λ es en wq. en.1))

    go : (o : Out (List ℕ)) → read_name s ≡ o → name_found f used o ≡ framed n q
        → (read_name s ≡ got n [] q) × (any (equal n) used ≡ false) × (s ≡ with_size n ++ q) × (is_empty n ≡ false)
    go (fault k) e h = never h
    go (got m fs r) e h = by m fs r e (has Long fs) (has Blank fs) (has NotUtf8 fs) (any (equal m) used) refl refl refl refl h

pub not_empty : (n : List ℕ) → is_empty n ≡ false → 1 ≤ length n
unfolding is_empty
not_empty [] h = untrue (sym h)
not_empty (b ∷ n) h = omega arith

pub front_got : (named : Bool) (used : List (List ℕ)) (s : List ℕ) → Bytes s → {x : List ℕ × Kind} {q : List ℕ}
    → frame_front (mode_of named used) s ≡ framed x q → Fronted named s x q
unfolding name_part
front_got named used [] w h = never h
front_got named used (b ∷ s) w {x} {q} h =
    next_got (frame_kind (b ∷ s) (known b) s) _ h λ k r e h₁. next_got (frame_name (b ∷ s) (mode_of named used) r) _ h₁ λ n u e₁ h₂.
    let z : x ≡ (n, k) = cc in
    let y : u ≡ q = cc in
    rw (z, ← y) (at k r (kind_got k r (known b) refl e) named n u e₁)
  where
    kind_got : (k : Kind) (r : List ℕ) (o : Option Kind) → known b ≡ o → frame_kind (b ∷ s) o s ≡ framed k r → (b ≡ id k) × (s ≡ r) × (is_writable (payload k) ≡ true)
    kind_got k r None e h = never h
    kind_got k r (Some l) e h = go (is_writable (payload l)) refl h
      where
        go : (t : Bool) → is_writable (payload l) ≡ t → cond t (framed l s) (refused BadFrame (b ∷ s)) ≡ framed k r
            → (b ≡ id k) × (s ≡ r) × (is_writable (payload k) ≡ true)
        go false i h = never h
        go true i h = let z : l ≡ k = cc in (rw z at (known_inv b l e), cc, rw z at i)

    at : (k : Kind) (r : List ℕ) → (b ≡ id k) × (s ≡ r) × (is_writable (payload k) ≡ true) → (named : Bool) (n u : List ℕ)
        → frame_name (b ∷ s) (mode_of named used) r ≡ framed n u → Fronted named (b ∷ s) (n, k) u
    at k r (eb, es, ew) false n u h = let z : r ≡ u = cc in record { is = rw (eb, es, z); good = ew; some = λ t. untrue t; name = λ c t e z. untrue z }
    at k r (eb, es, ew) true n u h = let i = name_found_law (b ∷ s) used r (rw es at w.1) h in
        record {
          is = rw (eb, es, i.2);
          good = ew;
          some = λ t. rw length-append (omega (arith, not_empty n i.3, (encoded_length (length n)).0));
          name = λ c t e z. let y : r ≡ t = cc in rw y at i.0;
        }

-- a frame is what stands before its payload, and its payload
abbrev pub with_name : {A : Type 0} → List ℕ → Frames A → Frames (List ℕ × A)
with_name n o = next o λ t u. framed (n, t) u

pub frame_front_law : {A : Type 0} (p : FrameReader A) (names : Optional (List (List ℕ))) (s : List ℕ) → 0 < length s
    → frame p names s ≡ next (frame_front names s) λ x q. with_name x.0 (frame_payload p s (payload x.1) q)
frame_front_law p names [] h = absurd (omega arith)
frame_front_law p names (b ∷ s) h = go (frame_kind (b ∷ s) (known b) s)
  where
    by : (k : Kind) (o : Frames (List ℕ)) → (next o λ n q. with_name n (frame_payload p (b ∷ s) (payload k) q))
        ≡ (next (next o λ n q. framed (n, k) q) λ (x : List ℕ × Kind) q. with_name x.0 (frame_payload p (b ∷ s) (payload x.1) q))
    by k (refused n r) = refl
    by k (framed n r) = refl

    go : (o : Frames Kind) → (next o λ k r. next (frame_name (b ∷ s) names r) λ n q. with_name n (frame_payload p (b ∷ s) (payload k) q))
        ≡ (next (next o λ k r. next (frame_name (b ∷ s) names r) λ n q. framed (n, k) q) λ (x : List ℕ × Kind) q.
        with_name x.0 (frame_payload p (b ∷ s) (payload x.1) q))
    go (refused n r) = refl
    go (framed k r) = by k (frame_name (b ∷ s) names r)

-- a refusal carries the frame
abbrev pub Rests : {A : Type 0} → List ℕ → Frames A → Type 0
Rests f (refused n r) = r ≡ f
Rests f (framed a r) = Unit {0}

rests_next : {A B : Type 0} (f : List ℕ) (o : Frames A) (g : A → List ℕ → Frames B) → Rests f o → ((a : A) (q : List ℕ) → Rests f (g a q)) → Rests f (next o g)
rests_next f (refused n r) g h c = h
rests_next f (framed a q) g h c = c a q

pub front_rests : (u : Optional (List (List ℕ))) (s : List ℕ) → 0 < length s → Rests s (frame_front u s)
front_rests u [] h = absurd (omega arith)
front_rests u (b ∷ s) h =
    rests_next (b ∷ s) (frame_kind (b ∷ s) (known b) s) _ (kind_rests (known b)) λ k r. rests_next (b ∷ s) (frame_name (b ∷ s) u r) _ (name_rests u r) λ n q. tt
  where
    kind_rests : (o : Option Kind) → Rests (b ∷ s) (frame_kind (b ∷ s) o s)
    kind_rests None = refl
    kind_rests (Some k) = go (is_writable (payload k))
      where
        go : (t : Bool) → Rests (b ∷ s) (cond t (framed k s) (refused BadFrame (b ∷ s)))
        go true = tt
        go false = refl

    found_rests : (used : List (List ℕ)) (o : Out (List ℕ)) → Rests (b ∷ s) (name_found (b ∷ s) used o)
    found_rests used (fault k) = refl
    found_rests used (got n fs r) = go (has Long fs) (has Blank fs) (has NotUtf8 fs) (any (equal n) used)
      where
        go : (p q o t : Bool) → Rests (b ∷ s) (cond p (refused BadFrame (b ∷ s))
            (cond q (refused EmptyName (b ∷ s)) (cond o (refused NotText (b ∷ s)) (cond t (refused NameUsed (b ∷ s)) (framed n r)))))
        go true q o t = refl
        go false true o t = refl
        go false false true t = refl
        go false false false true = refl
        go false false false false = tt

    name_rests : (u : Optional (List (List ℕ))) (r : List ℕ) → Rests (b ∷ s) (frame_name (b ∷ s) u r)
    name_rests none r = tt
    name_rests (some used) r = found_rests used (read_name r)

-- ---- the payload of a kind

-- a kind that may be written and opens no container is a leaf
pub leaf_kind_law : (k : Kind) → is_writable (payload k) ≡ true → (id k ≡ 2 → ⊥) → (id k ≡ 4 → ⊥) → IsLeaf (payload k)
unfolding payload
leaf_kind_law Null w g h = tt
leaf_kind_law Object w g h = absurd (g refl)
leaf_kind_law UniformObject w g h = untrue w
leaf_kind_law Array w g h = absurd (h refl)
leaf_kind_law UniformArray w g h = untrue w
leaf_kind_law Binary w g h = tt
leaf_kind_law String w g h = tt
leaf_kind_law IntegerPositive w g h = tt
leaf_kind_law IntegerNegative w g h = tt
leaf_kind_law Float32 w g h = tt
leaf_kind_law Float64 w g h = tt
leaf_kind_law False w g h = tt
leaf_kind_law True w g h = tt
leaf_kind_law ObjectAttachment w g h = tt
leaf_kind_law BinaryAttachment w g h = tt
leaf_kind_law Hash w g h = tt
leaf_kind_law Uuid w g h = tt
leaf_kind_law DateTime w g h = tt
leaf_kind_law TimeSpan w g h = tt
leaf_kind_law ObjectId w g h = tt
leaf_kind_law CustomById w g h = tt
leaf_kind_law CustomByName w g h = tt

pub object_payload : {A : Type 0} (p : FrameReader A) (f : List ℕ) (k : Kind) (q : List ℕ) → k ≡ Object → frame_payload p f (payload k) q ≡ container_of true p q
unfolding payload container_of
object_payload p f k q e = rw e

pub array_payload : {A : Type 0} (p : FrameReader A) (f : List ℕ) (k : Kind) (q : List ℕ) → k ≡ Array → frame_payload p f (payload k) q ≡ container_of false p q
unfolding payload container_of
array_payload p f k q e = rw e
