-- The frames of a leaf, of a name and of the fields of a container are read back.
use Prim.Native.Nat.{ℕ, zero, suc, ◌+◌, ◌^◌, ◌≤◌, ◌<◌}
use native.Mathlib.Omega.{arith}
use mathlib.Core.Path.{◌≡◌, refl, ap, ◌∙◌}
use mathlib.Core.Bool.{Bool, true, false, cond}
use mathlib.Core.List.{List, [], ◌∷◌, ◌++◌, map, append_assoc}
use lib.ListN.{length, length-append}
use lib.Dec.{eqb}
use lib.IntN.{pos, negsuc}
use Rattle.number.specs.BigEndian.{All}
use Rattle.text.specs.Equal.{equal}
use Rattle.float.specs.Rule.{holds}
use Rattle.format.specs.declared.Kind.{Kind}
use Rattle.format.specs.declared.Kind.TheVariants.{Float32, Float64}
use Rattle.format.specs.Kinds.{id, any}
use Rattle.format.specs.Tree.{Float, number, nan32, nan64, Leaf, null, bool, integer, float, binary, string, object_attachment, binary_attachment, hash, uuid}
use Rattle.format.specs.Tree.{object_id, date_time, time_span, custom_by_id, custom_by_name, atom, LeafWithin, NameWithin}
use Rattle.format.specs.Payload.{payload, value, head}
use Rattle.format.specs.Encoding.{with_size, concat, float_kind, leaf_kind, leaf_payload}
use Rattle.frames.specs.WriteList.{Frames, framed, next, is_writable, frame_name, until_close, frame_payload, frame, FrameReader}
use Rattle.format.proofs.Lists.{length_concat, all_pure}
use Rattle.format.proofs.Back.{make_case}
use Rattle.format.proofs.KindLaws.{known_rt}
use Rattle.format.proofs.TextLaws.{inside_lt, name_rt}
use Rattle.format.proofs.Leaves.{leaf_rt}
use Rattle.frames.specs.Container.{name_part}
use Rattle.frames.specs.FramePieces.{mode_of, contents_by, IsLeaf}
use Rattle.frames.proofs.LeafLaws.{leaf_of_law}

-- ---- a leaf

float_leaf : (x : Float) → IsLeaf (payload (float_kind x))
unfolding payload
float_leaf (number b) = go (holds b)
  where
    go : (h : Bool) → IsLeaf (payload (cond h Float32 Float64))
    go true = tt
    go false = tt
float_leaf (nan32 b) = tt
float_leaf (nan64 b) = tt

leaf_is : (v : Leaf) → IsLeaf (payload (leaf_kind v))
unfolding payload
leaf_is null = tt
leaf_is (bool true) = tt
leaf_is (bool false) = tt
leaf_is (integer (pos n)) = tt
leaf_is (integer (negsuc n)) = tt
leaf_is (float x) = float_leaf x
leaf_is (binary s) = tt
leaf_is (string s) = tt
leaf_is (object_attachment s) = tt
leaf_is (binary_attachment s) = tt
leaf_is (hash s) = tt
leaf_is (uuid s) = tt
leaf_is (object_id s) = tt
leaf_is (date_time z) = tt
leaf_is (time_span z) = tt
leaf_is (custom_by_id n s) = tt
leaf_is (custom_by_name n s) = tt

pub leaf_framed : {A : Type 0} (p : FrameReader A) (f : List ℕ) (v : Leaf) (r : List ℕ) → LeafWithin v → length (leaf_payload v) < 2 ^ 64
    → (frame_payload p f (payload (leaf_kind v)) (leaf_payload v ++ r) ≡ framed (atom v) r) × (is_writable (payload (leaf_kind v)) ≡ true)
unfolding head
leaf_framed p f v r w l = leaf_of_law (leaf_kind v) (leaf_is v) λ g e.
    let h = rw e at (leaf_rt v r w l) in
    make_case value (g (leaf_payload v ++ r)) h λ a i z. let y : v ≡ a = cc in (rw (e, i, ← y), rw e)

-- ---- a name

-- inside an object a name within the limits, and none of those before it; elsewhere none
abbrev pub NameFits : Bool → List (List ℕ) → List ℕ → Type 0
NameFits true used n = NameWithin n × (any (equal n) used ≡ false)
NameFits false used n = n ≡ []

name_framed : (f : List ℕ) (named : Bool) (used : List (List ℕ)) (n q : List ℕ) → NameFits named used n → length (name_part named n) < 2 ^ 64
    → frame_name f (mode_of named used) (name_part named n ++ q) ≡ framed n q
unfolding name_part
name_framed f true used n q w l = rw (name_rt n q w.0 (inside_lt n l), w.1)
name_framed f false used n q w l = rw w

-- the front of a frame
pub front_framed : {A : Type 0} (p : FrameReader A) (k : Kind) (named : Bool) (used : List (List ℕ)) (n q : List ℕ) → is_writable (payload k) ≡ true
    → NameFits named used n → length (name_part named n) < 2 ^ 64
    → (s : List ℕ) → s ≡ name_part named n ++ q → frame p (mode_of named used) (id k ∷ s) ≡ next (frame_payload p (id k ∷ s) (payload k) q) λ t u. framed (n, t) u
front_framed p k named used n q g w l s e =
    rw (known_rt k, g) (rw (ap (frame_name (id k ∷ s) (mode_of named used)) e ∙ name_framed (id k ∷ s) named used n q w l))

-- ---- the fields of a container

-- a frame begins with a byte that is no close, and is read back
pub record Framed {A : Type 0} (W : A → Type 0) (p : FrameReader A) (f : List ℕ → A → List ℕ) : Type 0 where
  pub begins : (name : List ℕ) (a : A) → (b : ℕ) × (t : List ℕ) × (f name a ≡ b ∷ t) × (eqb b 0 ≡ false)
  pub reads : (named : Bool) (used : List (List ℕ)) (n : List ℕ) (a : A) (r : List ℕ) → W a → NameFits named used n → length (f (name_part named n) a) < 2 ^ 64
      → p (mode_of named used) (f (name_part named n) a ++ r) ≡ framed (n, a) r

abbrev pub NamesFit : {A : Type 0} → Bool → List (List ℕ) → List (List ℕ × A) → Type 0
NamesFit named used [] = Unit {0}
NamesFit named used (x ∷ xs) = NameFits named used x.0 × NamesFit named (x.0 ∷ used) xs

until_more : {A : Type 0} (q : List (List ℕ) → List ℕ → Frames (List ℕ × A)) (n : ℕ) (used : List (List ℕ)) (s : List ℕ) (b : ℕ) (t : List ℕ)
    → s ≡ b ∷ t → eqb b 0 ≡ false → until_close q (suc n) used s ≡ next (q used s) λ x r. next (until_close q n (x.0 ∷ used) r) λ xs u. framed (x ∷ xs) u
until_more q n used s b t e h = rw (e, h)

module _ {A : Type 0} (W : A → Type 0) (p : FrameReader A) (f : List ℕ → A → List ℕ) (g : Framed W p f) where
  abbrev pub field : Bool → List ℕ × A → List ℕ
  field named x = f (name_part named x.0) x.1

  contents_framed : (named : Bool) (xs : List (List ℕ × A)) (n : ℕ) (used : List (List ℕ)) (r : List ℕ) → All (λ x. W x.1) xs → NamesFit named used xs
      → length (concat (field named) xs) < 2 ^ 64 → length xs < n → contents_by named p n used (concat (field named) xs ++ (0 ∷ r)) ≡ framed xs r
  contents_framed named xs zero used r w v l m = absurd (omega arith)
  contents_framed named [] (suc n) used r w v l m = refl
  contents_framed named (x ∷ xs) (suc n) used r w v l m =
      let i = g.begins (name_part named x.0) x.1 in
      let q = concat (field named) xs ++ (0 ∷ r) in
      let k : length (field named x) + length (concat (field named) xs) < 2 ^ 64 = rw length-append at l in
      rw (
        append_assoc (field named x) (concat (field named) xs) (0 ∷ r),
        until_more (λ u. p (mode_of named u)) n used (field named x ++ q) i.0 (i.1 ++ q) (rw i.2) i.3,
        g.reads named used x.0 x.1 q w.0 v.0 (omega arith),
        contents_framed named xs n (x.0 ∷ used) r w.1 v.1 (omega arith) (omega arith),
      )

  -- the bound on how many there are is enough
  field_some : (named : Bool) (xs : List (List ℕ × A)) → length xs ≤ length (concat (field named) xs)
  field_some named xs = length_concat (field named) xs
      (all_pure (λ x. 1 ≤ length (field named x)) (λ x. let i = g.begins (name_part named x.0) x.1 in rw i.2 (omega arith)) xs)

  pub container_framed : (named : Bool) (xs : List (List ℕ × A)) (r : List ℕ) → All (λ x. W x.1) xs → NamesFit named [] xs
      → length (concat (field named) xs) < 2 ^ 64 → (q : List ℕ) → q ≡ concat (field named) xs ++ (0 ∷ r) → contents_by named p (length q) [] q ≡ framed xs r
  container_framed named xs r w v l q e = rw e (contents_framed named xs (length (concat (field named) xs ++ (0 ∷ r))) [] r w v l
      (rw (length-append (concat (field named) xs) (0 ∷ r)) (omega (arith, field_some named xs))))

  -- an array's items have no names
  abbrev pub nameless : List A → List (List ℕ × A)
  nameless xs = map (λ a. ([], a)) xs

  pub nameless_fit : (xs : List A) (used : List (List ℕ)) → NamesFit false used (nameless xs)
  nameless_fit [] used = tt
  nameless_fit (x ∷ xs) used = (refl, nameless_fit xs ([] ∷ used))

  pub nameless_within : (xs : List A) → All W xs → All (λ x. W x.1) (nameless xs)
  nameless_within [] w = tt
  nameless_within (x ∷ xs) w = (w.0, nameless_within xs w.1)

  pub nameless_frames : (xs : List A) → concat (field false) (nameless xs) ≡ concat (f []) xs
  unfolding name_part
  nameless_frames [] = refl
  nameless_frames (x ∷ xs) = ap (λ (t : List ℕ). f [] x ++ t) (nameless_frames xs)

  pub nameless_node : (xs : List A) → map (λ (x : List ℕ × A). x.1) (nameless xs) ≡ xs
  nameless_node [] = refl
  nameless_node (x ∷ xs) = ap (λ (t : List A). x ∷ t) (nameless_node xs)

  pub named_frames : (xs : List (List ℕ × A)) → concat (field true) xs ≡ concat (λ x. f (with_size x.0) x.1) xs
  unfolding name_part
  named_frames xs = refl
