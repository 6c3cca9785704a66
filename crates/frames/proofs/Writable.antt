-- Every tree within the limits is written, given a list within the limit and the buffers; and from the output the tree is known.
use Rattle.std.specs.Prelude.{Ok}
use Prim.Native.Nat.{ℕ, zero, suc, ◌+◌, ◌*◌, ◌≤◌, ◌<◌}
use native.Mathlib.Omega.{arith}
use mathlib.Core.Path.{◌≡◌, sym, ap, ◌∙◌}
use mathlib.Core.List.{List, [], ◌∷◌, ◌++◌}
use lib.ListN.{length, drop, length-append}
use borrow.Author.Tests.{le-ltb}
use Rattle.number.specs.BigEndian.{All, Bytes}
use Rattle.format.specs.declared.Form.TheVariants.{Top}
use Rattle.format.specs.declared.Kind.{Kind}
use Rattle.format.specs.Limits.{depth_limit, length_limit}
use Rattle.format.specs.Kinds.{id}
use Rattle.format.specs.Parse.{Out, got}
use Rattle.format.specs.Reader.{Standing, Named, Layout, tree, read}
use Rattle.format.specs.Tree.{Leaf, string, atom, array, object, Tree, LeafWithin, NameWithin, NodeWithin, Within}
use Rattle.format.specs.Encoding.{with_size, concat, leaf_kind, leaf_payload, kind_of, encoding, sizes_of, WithinLimits}
use Rattle.frames.specs.WriteList.{framed, read_list}
use Rattle.frames.specs.Writer.{wrote, outcome, Afterwards, result_of, written}
use Rattle.format.proofs.BytesOf.{bytes_of_encoding}
use Rattle.format.proofs.Spelling.{reading_gives_back}
use Rattle.frames.specs.Describe.{close, node_frames, frames_of, list_of}
use Rattle.frames.proofs.Answers.{written_is_encoding}
use Rattle.frames.proofs.Describable.{tree_described}
use Rattle.frames.proofs.ListLength.{list_length}

-- ---- written

-- the encoding, and the sizes of the containers
abbrev pub success : Tree depth_limit → List ℕ → List ℕ → Afterwards
success t output work = result_of (wrote (encoding depth_limit t) (sizes_of depth_limit t)) output work

-- A list that describes a tree within the limits is written, where it is no longer than 65,536 bytes and the buffers are large enough
pub described_written : (list : List ℕ) (t : Tree depth_limit) → read_list depth_limit list ≡ framed t [] → WithinLimits t → length list ≤ length_limit
    → (output work : List ℕ) → length (encoding depth_limit t) ≤ length output → length (sizes_of depth_limit t) ≤ length work
    → written list output work ≡ success t output work
unfolding written outcome
described_written list t e w l output work room numbers =
    rw (
      le-ltb length_limit (length list) l,
      e,
      le-ltb (length work) (length (sizes_of depth_limit t)) numbers,
      le-ltb (length output) (length (encoding depth_limit t)) room,
      le-ltb length_limit (length (encoding depth_limit t)) w.short,
    )

-- So is every tree within the limits, where its list is no longer than 65,536 bytes. That does not follow from its encoding's length
-- (proofs/Beyond.antt: no list within the limit describes an array of 32,768 zeros)
pub tree_written : (t : Tree depth_limit) → WithinLimits t → length (list_of depth_limit t) ≤ length_limit
    → (output work : List ℕ) → length (encoding depth_limit t) ≤ length output → length (sizes_of depth_limit t) ≤ length work
    → written (list_of depth_limit t) output work ≡ success t output work
tree_written t w l = described_written (list_of depth_limit t) t (tree_described depth_limit t w.within (omega (arith, l))) w l

-- it does where the encoding has no more than half as many
pub half_written : (t : Tree depth_limit) → Within depth_limit t → 2 * length (encoding depth_limit t) ≤ length_limit
    → (output work : List ℕ) → length (encoding depth_limit t) ≤ length output → length (sizes_of depth_limit t) ≤ length work
    → written (list_of depth_limit t) output work ≡ success t output work
half_written t w l = tree_written t (record { within = w; short = omega arith }) (omega (arith, list_length depth_limit t w))

-- ---- distinct trees have distinct outputs, whatever the buffers held

pub outputs_apart : (t u : Tree depth_limit) → WithinLimits t → WithinLimits u → (a b : List ℕ)
    → encoding depth_limit t ++ a ≡ encoding depth_limit u ++ b → t ≡ u
outputs_apart t u v w a b e =
    let i = reading_gives_back t v a in
    let j = reading_gives_back u w b in
    same (kind_of depth_limit t) (kind_of depth_limit u) i.0 j.0 (sym i.2 ∙ ap (read depth_limit Top) e ∙ j.2) i.1 j.1
  where
    same : (k l : Kind) (x y : Layout depth_limit) → ◌≡◌ {A = Out (Named (Standing (Layout depth_limit)))} (got ([], (k, x)) [] a) (got ([], (l, y)) [] b)
        → tree depth_limit x ≡ t → tree depth_limit y ≡ u → t ≡ u
    same k l x y h i j =
        let p : ◌≡◌ {A = Named (Standing (Layout depth_limit))} ([], (k, x)) ([], (l, y)) = cc in
        sym i ∙ ap (λ (q : Named (Standing (Layout depth_limit))). tree depth_limit q.1.1) p ∙ j

-- two successes that leave the same output were given lists of the same tree
pub same_output_same_tree : (list list' output output' work work' : List ℕ) (n n' : ℕ) → Bytes list → Bytes list'
    → (written list output work).answer ≡ Ok n → (written list' output' work').answer ≡ Ok n'
    → (written list output work).output ≡ (written list' output' work').output
    → read_list depth_limit list ≡ read_list depth_limit list'
same_output_same_tree list list' output output' work work' n n' w w' h h' e =
    let i = written_is_encoding list output work n w h in
    let j = written_is_encoding list' output' work' n' w' h' in
    let z = outputs_apart i.tree j.tree i.within j.within (drop n output) (drop n' output') (sym i.output_is ∙ e ∙ j.output_is) in
    i.described ∙ ap (λ (t : Tree depth_limit). framed t []) z ∙ sym j.described

-- ---- the list is made of bytes

bytes_both : (s t : List ℕ) → Bytes s → Bytes t → Bytes (s ++ t)
bytes_both [] t v w = w
bytes_both (b ∷ s) t v w = (v.0, bytes_both s t v.1 w)

-- the leaf as a tree of its own
leaf_bytes : (v : Leaf) → LeafWithin v → length (leaf_payload v) ≤ length_limit → (id (leaf_kind v) < 256) × Bytes (leaf_payload v)
unfolding encoding
leaf_bytes v w l = let i = bytes_of_encoding 1 (atom v) w (omega arith) in (omega (arith, i.0), i.1)

name_bytes : (n : List ℕ) → NameWithin n → length (with_size n) ≤ length_limit → Bytes (with_size n)
name_bytes n w l = (leaf_bytes (string n) w.0 l).1

concat_bytes : {A : Type 0} (f : A → List ℕ) (W : A → Type 0) → ((a : A) → W a → length (f a) ≤ length_limit → Bytes (f a)) → (xs : List A) → All W xs
    → length (concat f xs) ≤ length_limit → Bytes (concat f xs)
concat_bytes f W g [] w l = tt
concat_bytes f W g (x ∷ xs) w l =
    let m : length (f x) + length (concat f xs) ≤ length_limit = rw length-append at l in
    bytes_both (f x) (concat f xs) (g x w.0 (omega arith)) (concat_bytes f W g xs w.1 (omega arith))

abbrev FramesBytes : {A : Type 0} → (A → Type 0) → (List ℕ → A → List ℕ) → Type 0
FramesBytes {A} W f = (name : List ℕ) (a : A) → W a → (length name ≤ length_limit → Bytes name) → length (f name a) ≤ length_limit → Bytes (f name a)

node_bytes : {A : Type 0} (W : A → Type 0) (f : List ℕ → A → List ℕ) → FramesBytes W f → FramesBytes (NodeWithin W) (node_frames f)
node_bytes W f g name (atom v) w k l =
    let m = length-append name (leaf_payload v) in
    let i = leaf_bytes v w (omega arith) in
    (i.0, bytes_both name (leaf_payload v) (k (omega arith)) i.1)
node_bytes W f g name (array xs) w k l =
    let c = concat (f []) xs in
    let m = length-append name (c ++ close) in
    let o = length-append c close in (
      omega arith,
      bytes_both name (c ++ close) (k (omega arith))
          (bytes_both c close (concat_bytes (f []) W (λ a v n. g [] a v (λ _. tt) n) xs w (omega arith)) (omega arith, tt)),
    )
node_bytes W f g name (object xs) w k l =
    let e : List ℕ × _ → List ℕ = λ x. f (with_size x.0) x.1 in
    let c = concat e xs in
    let m = length-append name (c ++ close) in
    let o = length-append c close in (
      omega arith,
      bytes_both name (c ++ close) (k (omega arith)) (bytes_both c close (concat_bytes e (λ x. NameWithin x.0 × W x.1)
          (λ x v n. g (with_size x.0) x.1 v.1 (name_bytes x.0 v.0) n) xs w.0 (omega arith)) (omega arith, tt)),
    )

frames_bytes : (d : ℕ) → FramesBytes (Within d) (frames_of d)
frames_bytes zero = λ name a. absurd a
frames_bytes (suc d) = node_bytes (Within d) (frames_of d) (frames_bytes d)

pub list_bytes : (d : ℕ) (t : Tree d) → Within d t → length (list_of d t) ≤ length_limit → Bytes (list_of d t)
unfolding list_of
list_bytes d t w l = frames_bytes d [] t w (λ _. tt) l
