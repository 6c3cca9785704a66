-- Every tree within the limits is described by a list: the frames of a tree are read as the tree.
use Prim.Native.Nat.{ℕ, zero, suc, ◌+◌, ◌^◌, ◌<◌}
use native.Mathlib.Omega.{arith}
use mathlib.Core.Path.{◌≡◌, refl, sym, ◌∙◌}
use mathlib.Core.Bool.{Bool, true, false, ◌||◌}
use mathlib.Core.Option.{none}
use mathlib.Core.List.{List, [], ◌∷◌, ◌++◌, map, append_assoc}
use lib.ListN.{length, length-append}
use lib.Dec.{eqb}
use borrow.Author.Tests.{ne_eqb}
use Rattle.number.specs.BigEndian.{All}
use Rattle.text.specs.Equal.{equal}
use Rattle.text.proofs.Laws.{equal_refl, equal_is}
use Rattle.format.specs.declared.Kind.{Kind}
use Rattle.format.specs.declared.Kind.TheVariants.{Object, Array}
use Rattle.format.specs.Kinds.{id, any}
use Rattle.format.specs.Names.{twins}
use Rattle.format.specs.Tree.{Node, atom, array, object, Tree, NameWithin, NodeWithin, Within}
use Rattle.format.specs.Payload.{payload}
use Rattle.format.specs.Encoding.{with_size, concat, leaf_kind, leaf_payload}
use Rattle.frames.specs.WriteList.{framed, frame, FrameReader, read_frames, read_list}
use Rattle.format.proofs.Lists.{append_nil, all_of}
use Rattle.format.proofs.KindLaws.{id_range}
use Rattle.frames.specs.Container.{name_part}
use Rattle.frames.specs.FramePieces.{mode_of}
use Rattle.frames.specs.Describe.{close, node_frames, frames_of, list_of}
use Rattle.frames.proofs.Flaws.{untrue}
use Rattle.frames.proofs.FramedFields.{NameFits, Framed, NamesFit, field, nameless, leaf_framed, front_framed, container_framed, nameless_fit}
use Rattle.frames.proofs.FramedFields.{nameless_within, nameless_frames, nameless_node, named_frames}

-- ---- names that are not equal to one another are each none of those before

equal_sym : (m n : List ℕ) → equal m n ≡ false → equal n m ≡ false
equal_sym m n h = go (equal n m) refl
  where
    go : (x : Bool) → equal n m ≡ x → x ≡ false
    go true e = untrue (sym h ∙ (let z : n ≡ m = equal_is n m e in rw z (equal_refl m)))
    go false e = refl

or_false : (x y : Bool) → (x || y) ≡ false → (x ≡ false) × (y ≡ false)
or_false true y h = untrue (sym h)
or_false false y h = (refl, h)

-- none of the names is one of those used
abbrev Apart : List (List ℕ) → List (List ℕ) → Type 0
Apart used ns = All (λ n. any (equal n) used ≡ false) ns

apart_more : (used ns : List (List ℕ)) (m : List ℕ) → any (equal m) ns ≡ false → Apart used ns → Apart (m ∷ used) ns
apart_more used [] m h a = tt
apart_more used (n ∷ ns) m h a = let i = or_false (equal m n) (any (equal m) ns) h in (rw (equal_sym m n i.0, a.0), apart_more used ns m i.1 a.1)

names_fit : {A : Type 0} (used : List (List ℕ)) (xs : List (List ℕ × A)) → All (λ x. NameWithin x.0) xs → Apart used (map (λ x. x.0) xs)
    → twins (map (λ x. x.0) xs) ≡ false → NamesFit true used xs
unfolding twins
names_fit used [] w a h = tt
names_fit used (x ∷ xs) w a h =
    let i = or_false (any (equal x.0) (map (λ x. x.0) xs)) (twins (map (λ x. x.0) xs)) h in
    ((w.0, a.0), names_fit (x.0 ∷ used) xs w.1 (apart_more used (map (λ x. x.0) xs) x.0 i.0 a.1) i.1)

apart_none : (ns : List (List ℕ)) → Apart [] ns
apart_none [] = tt
apart_none (n ∷ ns) = (refl, apart_none ns)

-- ---- one layer, and every layer

kind_no_close : (k : Kind) → eqb (id k) 0 ≡ false
kind_no_close k = ne_eqb (id k) 0 (λ e. omega (arith, (id_range k).0))

node_begins : {A : Type 0} (f : List ℕ → A → List ℕ) (name : List ℕ) (t : Node A) → (b : ℕ) × (u : List ℕ) × (node_frames f name t ≡ b ∷ u) × (eqb b 0 ≡ false)
node_begins f name (atom v) = (id (leaf_kind v), name ++ leaf_payload v, refl, kind_no_close (leaf_kind v))
node_begins f name (array xs) = (id Array, name ++ (concat (f []) xs ++ close), refl, refl)
node_begins f name (object xs) = (id Object, name ++ (concat (λ x. f (with_size x.0) x.1) xs ++ close), refl, refl)

module _ {A : Type 0} (W : A → Type 0) (p : FrameReader A) (f : List ℕ → A → List ℕ) (g : Framed W p f) where
  node_reads : (named : Bool) (used : List (List ℕ)) (n : List ℕ) (t : Node A) (r : List ℕ) → NodeWithin W t → NameFits named used n
      → length (node_frames f (name_part named n) t) < 2 ^ 64 → frame p (mode_of named used) (node_frames f (name_part named n) t ++ r) ≡ framed (n, t) r
  unfolding payload
  node_reads named used n (atom v) r w v' l =
      let m : length (name_part named n) + length (leaf_payload v) < 2 ^ 64 = omega (arith, length-append (name_part named n) (leaf_payload v)) in
      let s = (name_part named n ++ leaf_payload v) ++ r in
      let i = leaf_framed p (id (leaf_kind v) ∷ s) v r w (omega arith) in
      front_framed p (leaf_kind v) named used n (leaf_payload v ++ r) i.1 v' (omega arith) s (append_assoc (name_part named n) (leaf_payload v) r) ∙ rw i.0
  node_reads named used n (array xs) r w v l =
      let c = concat (f []) xs in
      let m : length (name_part named n) + (length c + 1) < 2 ^ 64 = omega (arith, length-append (name_part named n) (c ++ close), length-append c close) in
      let s = (name_part named n ++ (c ++ close)) ++ r in
      let q = (c ++ close) ++ r in
      let z = nameless_frames W p f g xs in
      let e : q ≡ concat (field W p f g false) (nameless W p f g xs) ++ (0 ∷ r) = rw z (append_assoc c close r) in
      let y : length (concat (field W p f g false) (nameless W p f g xs)) < 2 ^ 64 = rw z (omega arith) in
      let i = container_framed W p f g false (nameless W p f g xs) r (nameless_within W p f g xs w) (nameless_fit W p f g xs []) y q e in
      front_framed p Array named used n q refl v (omega arith) s (append_assoc (name_part named n) (c ++ close) r) ∙ rw (i, nameless_node W p f g xs)
  node_reads named used n (object xs) r w v l =
      let c = concat (λ x. f (with_size x.0) x.1) xs in
      let m : length (name_part named n) + (length c + 1) < 2 ^ 64 = omega (arith, length-append (name_part named n) (c ++ close), length-append c close) in
      let s = (name_part named n ++ (c ++ close)) ++ r in
      let q = (c ++ close) ++ r in
      let z = named_frames W p f g xs in
      let e : q ≡ concat (field W p f g true) xs ++ (0 ∷ r) = rw z (append_assoc c close r) in
      let y : length (concat (field W p f g true) xs) < 2 ^ 64 = rw z (omega arith) in
      let a = all_of (λ x. NameWithin x.0 × W x.1) (λ x. NameWithin x.0) (λ x h. h.0) xs w.0 in
      let b = all_of (λ x. NameWithin x.0 × W x.1) (λ x. W x.1) (λ x h. h.1) xs w.0 in
      let i = container_framed W p f g true xs r b (names_fit [] xs a (apart_none (map (λ x. x.0) xs)) w.1) y q e in
      front_framed p Object named used n q refl v (omega arith) s (append_assoc (name_part named n) (c ++ close) r) ∙ rw i

  node_framed : Framed (NodeWithin W) (frame p) (node_frames f)
  node_framed = record { begins = node_begins f; reads = node_reads }

pub read_framed : (d : ℕ) → Framed (Within d) (read_frames d) (frames_of d)
unfolding read_frames
read_framed zero = record { begins = λ name a. absurd a; reads = λ named used n a r w v l. absurd a }
read_framed (suc d) = node_framed (Within d) (read_frames d) (frames_of d) (read_framed d)

-- Every tree within the limits is described by its list
pub tree_described : (d : ℕ) (t : Tree d) → Within d t → length (list_of d t) < 2 ^ 64 → read_list d (list_of d t) ≡ framed t []
unfolding read_list list_of name_part
tree_described d t w l = go (frames_of d [] t) ((read_framed d).begins [] t) (rw append_nil at ((read_framed d).reads false [] [] t [] w refl l))
  where
    go : (s : List ℕ) → (b : ℕ) × (u : List ℕ) × (s ≡ b ∷ u) × (eqb b 0 ≡ false) → read_frames d none s ≡ framed ([], t) [] → read_list d s ≡ framed t []
    go [] i h = absurd (let z = i.2 in let y : ◌≡◌ {A = ℕ} 0 1 = cc in omega arith)
    go (c ∷ s) i h = let z : c ≡ i.0 = cc i.2 in rw (z, i.3) (rw (rw z at h))
