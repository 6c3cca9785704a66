-- A list that is read to its end describes a tree within the limits: what each refusal keeps out of it.
use Prim.Native.Nat.{ℕ, zero, suc, ◌^◌, ◌<◌}
use mathlib.Core.Path.{◌≡◌, refl, sym, ap, subst, ◌∙◌}
use mathlib.Core.Bool.{Bool, true, false, ◌||◌, cond}
use mathlib.Core.Option.{none, some}
use mathlib.Core.List.{List, [], ◌∷◌, ◌++◌, map}
use lib.ListN.{length, take, drop, take-append-drop}
use lib.Seq.{length-take-le}
use lib.Dec.{eqb, ltb}
use borrow.Author.Tests.{eqb-true, eqb-false, ltb-false}
use Rattle.number.proofs.Clash.{clash}
use Rattle.number.specs.BigEndian.{All, Bytes, from_bytes}
use Rattle.text.specs.Equal.{equal}
use Rattle.text.proofs.Laws.{equal_refl, equal_is}
use Rattle.float.specs.Width.{is_nan64}
use Rattle.float.specs.Rule.{holds}
use Rattle.format.specs.declared.Kind.{Kind}
use Rattle.format.specs.declared.Kind.TheVariants.{Float64}
use Rattle.format.specs.declared.Stop.TheVariants.{Early}
use Rattle.frames.specs.declared.Refusal.TheVariants.{BadFrame, EmptyName, NameUsed, NotText, NoneOpen}
use Rattle.format.specs.Kinds.{id, known, any}
use Rattle.format.specs.Mask.{has}
use Rattle.format.specs.Names.{read_name, twins}
use Rattle.format.specs.declared.Flaw.{Flaw}
use Rattle.format.specs.declared.Flaw.TheVariants.{Blank, Long, Low, Wide, NotUtf8}
use Rattle.format.specs.Parse.{Out, fault, got, fixed}
use Rattle.format.specs.Tree.{number, nan64, Leaf, float, Node, Tree, FloatWithin, LeafWithin, NameWithin, NodeWithin, Within}
use Rattle.format.specs.Payload.{float64, read_float64, Payload, leaf, fields, shared_fields, items, shared_items, payload}
use Rattle.frames.specs.WriteList.{refused, framed, next, frame_kind, frame_name, name_found, leaf_found, frame, FrameReader, read_frames, only, read_list}
use Rattle.format.proofs.Lists.{all_both, bytes_left, bytes_right}
use Rattle.format.proofs.Local.{bind_got, raise_got}
use Rattle.format.proofs.TextLaws.{name_case}
use Rattle.format.proofs.LeavesBack.{OnlyBy, leaf_only}
use Rattle.format.proofs.Leaves.{bits_lt}
use Rattle.frames.specs.Container.{node_of, name_part}
use Rattle.frames.specs.FramePieces.{mode_of, frame_front, contents_by}
use Rattle.frames.proofs.Flaws.{untrue, leaf_clean}
use Rattle.frames.proofs.LeafLaws.{kind_double}
use Rattle.frames.proofs.FrontLaws.{never, next_got}
use Rattle.frames.proofs.Used.{leaf_found_law, payload_case, frame_case, read_used}

-- ---- a leaf

fixed_bytes : (n : ℕ) (s : List ℕ) → Bytes s → {b : List ℕ} {fs : List Flaw} {r : List ℕ} → fixed n s ≡ got b fs r → Bytes b × (length b ≡ n)
unfolding fixed
fixed_bytes n s w {b} {fs} {r} h = go (ltb (length s) n) refl h
  where
    go : (x : Bool) → ltb (length s) n ≡ x → cond x (fault Early) (got (take n s) [] (drop n s)) ≡ got b fs r → Bytes b × (length b ≡ n)
    go true e h = clash cc
    go false e h =
        let z : take n s ≡ b = cc in
        rw (← z) (bytes_left s (take n s) (drop n s) w (sym (take-append-drop n s)), length-take-le n s (ltb-false (length s) n e))

float64_within : (b : ℕ) → b < 2 ^ 64 → FloatWithin (float64 b)
float64_within b l = go (is_nan64 b) refl
  where
    go : (x : Bool) → is_nan64 b ≡ x → FloatWithin (cond x (nan64 b) (number b))
    go true e = (l, e)
    go false e = (l, e)

-- a Float64 that Float32 holds is one too
double_within : (s : List ℕ) → Bytes s → {v : Leaf} {fs : List Flaw} {r : List ℕ} → read_float64 s ≡ got v fs r → LeafWithin v
double_within s w {v} h =
    bind_got (fixed 8 s) _ h λ b es q gs e k ef. raise_got (holds (from_bytes b)) Wide (got (float (float64 (from_bytes b))) [] q) k λ hs i.
    let f = fixed_bytes 8 s w e in
    let z : float (float64 (from_bytes b)) ≡ v = cc in
    subst LeafWithin z (float64_within (from_bytes b) (bits_lt 8 b f.0 f.1))

-- refusals 2 and 5: what they do not meet is a leaf within the limits
pub leaf_within : (k : Kind) (p : List ℕ → Out Leaf) → payload k ≡ leaf p → (f s : List ℕ) → Bytes s → {v : Leaf} {r : List ℕ}
    → leaf_found f (p s) ≡ framed v r → LeafWithin v
unfolding payload
leaf_within k p e f s w {v} {r} h = leaf_found_law f (p s) h λ fs y a b c. go fs y a b c (eqb (id k) 11) refl
  where
    plain : (q : Payload) → q ≡ leaf p → OnlyBy k q → p s ≡ got v [] r → LeafWithin v
    plain (leaf q) y o i = let t : q ≡ p = cc in (o s v r w (rw (t, i))).2
    plain fields y o i = clash cc
    plain shared_fields y o i = clash cc
    plain items y o i = clash cc
    plain shared_items y o i = clash cc

    go : (fs : List Flaw) → p s ≡ got v fs r → has Long fs ≡ false → has Low fs ≡ false → has NotUtf8 fs ≡ false → (x : Bool)
        → eqb (id k) 11 ≡ x → LeafWithin v
    go fs y a b c true i =
        let t : payload Float64 ≡ leaf p = rw (kind_double k (eqb-true (id k) 11 i)) at e in
        let u : read_float64 ≡ p = cc in
        double_within s w (ap (λ (q : List ℕ → Out Leaf). q s) u ∙ y)
    go fs y a b c false i =
        let ne = eqb-false (id k) 11 i in
        let z : fs ≡ [] = leaf_clean k p ne e s y a b c in
        plain (payload k) e (leaf_only k) (rw z at y)

-- ---- names: each is none of those before it, so no two are equal

abbrev pub Fresh : List (List ℕ) → List (List ℕ) → Type 0
Fresh used [] = Unit {0}
Fresh used (n ∷ ns) = (any (equal n) used ≡ false) × Fresh (n ∷ used) ns

fresh_apart : (used ns : List (List ℕ)) (m : List ℕ) → any (equal m) used ≡ true → Fresh used ns → any (equal m) ns ≡ false
fresh_apart used [] m h f = refl
fresh_apart used (n ∷ ns) m h f = go (equal m n) refl (fresh_apart (n ∷ used) ns m (or_right (equal m n) h) f.1)
  where
    or_right : (x : Bool) {y : Bool} → y ≡ true → (x || y) ≡ true
    or_right true h = refl
    or_right false h = h

    go : (x : Bool) → equal m n ≡ x → any (equal m) ns ≡ false → (x || any (equal m) ns) ≡ false
    go true e ih = untrue (let z : m ≡ n = equal_is m n e in sym f.0 ∙ (rw z at h))
    go false e ih = ih

pub fresh_twins : (used ns : List (List ℕ)) → Fresh used ns → twins ns ≡ false
unfolding twins
fresh_twins used [] f = refl
fresh_twins used (n ∷ ns) f = rw (fresh_apart (n ∷ used) ns n (rw (equal_refl n)) f.1) (fresh_twins (n ∷ used) ns f.1)

-- refusal 4
name_fresh : (f : List ℕ) (used : List (List ℕ)) (o : Out (List ℕ)) {n q : List ℕ} → name_found f used o ≡ framed n q → any (equal n) used ≡ false
name_fresh f used (fault k) h = never h
name_fresh f used (got m fs r) {n} {q} h = go (has Long fs) (has Blank fs) (has NotUtf8 fs) (any (equal m) used) refl h
  where
    go : (a b c d : Bool) → any (equal m) used ≡ d
        → cond a (refused BadFrame f) (cond b (refused EmptyName f) (cond c (refused NotText f) (cond d (refused NameUsed f) (framed m r)))) ≡ framed n q
        → any (equal n) used ≡ false
    go true b c d e h = never h
    go false true c d e h = never h
    go false false true d e h = never h
    go false false false true e h = never h
    go false false false false e h = let z : m ≡ n = cc in rw z at e

front_fresh : (used : List (List ℕ)) (s : List ℕ) {x : List ℕ × Kind} {q : List ℕ} → frame_front (some used) s ≡ framed x q → any (equal x.0) used ≡ false
front_fresh used [] h = never h
front_fresh used (b ∷ s) {x} {q} h = next_got (frame_kind (b ∷ s) (known b) s) _ h λ k r e h₁. next_got (frame_name (b ∷ s) (some used) r) _ h₁ λ n u e₁ h₂.
    let z : x ≡ (n, k) = cc in
    rw z (name_fresh (b ∷ s) used (read_name r) e₁)

-- ---- a field

-- it is within the limits, and inside an object so is its name, which is none of those before it
pub record FieldWithin {A : Type 0} (W : A → Type 0) (named : Bool) (used : List (List ℕ)) (x : List ℕ × A) : Type 0 where
  pub within : W x.1
  pub name : named ≡ true → NameWithin x.0
  pub fresh : named ≡ true → any (equal x.0) used ≡ false

-- what is read is within the limits, and bytes are left
abbrev pub Describes : {A : Type 0} → (A → Type 0) → FrameReader A → Type 0
Describes {A} W p = (named : Bool) (used : List (List ℕ)) (s : List ℕ) (x : List ℕ × A) (r : List ℕ) → Bytes s → p (mode_of named used) s ≡ framed x r
    → FieldWithin W named used x × Bytes r

pub record FieldsWithin {A : Type 0} (W : A → Type 0) (named : Bool) (used : List (List ℕ)) (xs : List (List ℕ × A)) : Type 0 where
  pub within : All (λ x. W x.1) xs
  pub name : named ≡ true → All (λ x. NameWithin x.0) xs
  pub fresh : named ≡ true → Fresh used (map (λ x. x.0) xs)

all_map : {A B : Type 0} (P : B → Type 0) (f : A → B) (xs : List A) → All (λ x. P (f x)) xs → All P (map f xs)
all_map P f [] h = tt
all_map P f (x ∷ xs) h = (h.0, all_map P f xs h.1)

module _ {A : Type 0} (W : A → Type 0) (p : FrameReader A) (g : Describes W p) where
  contents_within : (named : Bool) (n : ℕ) (used : List (List ℕ)) (s : List ℕ) (xs : List (List ℕ × A)) (r : List ℕ) → Bytes s
      → contents_by named p n used s ≡ framed xs r → FieldsWithin W named used xs
  contents_within named zero used s xs r w h = never h
  contents_within named (suc n) used [] xs r w h = never h
  contents_within named (suc n) used (b ∷ s) xs r w h = go (λ v q ys t y e. contents_within named n v q ys t y e) (eqb b 0) h
    where
      go : ((v : List (List ℕ)) (q : List ℕ) (ys : List (List ℕ × A)) (t : List ℕ) → Bytes q → contents_by named p n v q ≡ framed ys t
          → FieldsWithin W named v ys) → (z : Bool)
          → cond z (framed [] s) (next (p (mode_of named used) (b ∷ s)) λ x r. next (contents_by named p n (x.0 ∷ used) r) λ xs q. framed (x ∷ xs) q)
          ≡ framed xs r → FieldsWithin W named used xs
      go ih true h = let e : [] ≡ xs = cc in rw (← e) (record { within = tt; name = λ t. tt; fresh = λ t. tt })
      go ih false h =
          next_got (p (mode_of named used) (b ∷ s)) _ h λ x q e h₁. next_got (contents_by named p n (x.0 ∷ used) q) _ h₁ λ ys t e₁ h₂.
          let a = g named used (b ∷ s) x q w e in
          let i = ih (x.0 ∷ used) q ys t a.1 e₁ in
          let z : x ∷ ys ≡ xs = cc in
          rw (← z) (record { within = (a.0.within, i.within); name = λ t. (a.0.name t, i.name t); fresh = λ t. (a.0.fresh t, i.fresh t) })

  container_within : (b : Bool) (xs : List (List ℕ × A)) → FieldsWithin W b [] xs → NodeWithin W (node_of b xs)
  container_within true xs f =
      (all_both (λ x. NameWithin x.0) (λ x. W x.1) xs (f.name refl) f.within, fresh_twins [] (map (λ x. x.0) xs) (f.fresh refl))
  container_within false xs f = all_map W (λ x. x.1) xs f.within

  node_within : (named : Bool) (used : List (List ℕ)) (s : List ℕ) (x : List ℕ × Node A) (r : List ℕ) → Bytes s → frame p (mode_of named used) s ≡ framed x r
      → FieldWithin (NodeWithin W) named used x
  unfolding name_part
  node_within named used s x r w h = frame_case p named used s w h λ k q e f i.
      let wq = bytes_right s (id k ∷ name_part named x.0) q w f.is in
      let wt = bytes_right s (id k ∷ []) (name_part named x.0 ++ q) w f.is in
      record {
        within = payload_case p s k q f.good i
            (λ l v el h₁ et. rw et (leaf_within k l el s q wq h₁))
            (λ b ek xs h₁ et. rw et (container_within b xs (contents_within b (length q) [] q xs r wq h₁)));
        name = λ t. name_case (name_part named x.0 ++ q) wt (f.name (id k) (name_part named x.0 ++ q) f.is t) λ es en wr. en;
        fresh = λ t. front_fresh used s (rw t at e);
      }

pub read_within : (d : ℕ) → Describes (Within d) (read_frames d)
unfolding read_frames
read_within zero = λ named used s x r w h. never h
read_within (suc d) = λ named used s x r w h. (
  node_within (Within d) (read_frames d) (read_within d) named used s x r w h,
  let u = read_used (suc d) named used s x r w h in bytes_right s u.pre r w u.all,
)

-- A list that is read to its end gives a tree within the limits
pub frames_within : (d : ℕ) (list : List ℕ) → Bytes list → (t : Tree d) (r : List ℕ) → read_list d list ≡ framed t r → Within d t
unfolding read_list
frames_within d [] w t r h = never h
frames_within d (b ∷ s) w t r h = go (eqb b 0) h
  where
    last : (x : List ℕ × Tree d) (q : List ℕ) → Within d x.1 → only x q ≡ framed t r → Within d t
    last x [] i k = let z : x.1 ≡ t = cc in subst (Within d) z i
    last x (c ∷ q) i k = never k

    go : (z : Bool) → cond z (refused NoneOpen (b ∷ s)) (next (read_frames d none (b ∷ s)) only) ≡ framed t r → Within d t
    go true h = never h
    go false h = next_got (read_frames d none (b ∷ s)) only h λ x q e k. last x q (read_within d false [] (b ∷ s) x q w e).0.within k
