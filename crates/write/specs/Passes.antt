-- What the second pass writes, of the tree that the list describes, where the encoder stands then, and what it needs.
use Rattle.std.specs.Prelude.{ℕ, suc, ◌+◌, ◌-◌, ◌≤◌, ◌<◌, ◌≡◌, Bool, not, List, ◌++◌, length, drop, set}
use Rattle.std.proofs.lemmas.List.Edits.{sets}
use Rattle.number.specs.BigEndian.{Bytes}
use Rattle.format.specs.Tree.{Leaf, Tree}
use Rattle.format.specs.Encoding.{leaf_payload, kind_of, payload_of, sizes_of}
use Rattle.frames.specs.WriteList.{framed, read_frames}
use Rattle.frames.specs.Container.{uniform_in, field_part, shared_part, size_in, width_in, shared_in, packs_of}
use Rattle.frames.specs.FramePieces.{mode_of, container_of, leaf_of}
use Rattle.number.specs.VarUInt.{encoded}
use Rattle.write.specs.declared.Position.{Position}
use Rattle.write.specs.declared.Opened.{Opened}

pub record LeafMade (s : List ℕ) (to k : ℕ) (out out' : List ℕ) (p : Position) (v : Leaf) (r : List ℕ) : Type 0 where
  pub next : p.next ≡ length s - length r
  pub on : p.to ≡ to + length (leaf_payload v)
  pub same : p.opened ≡ k
  pub is_out : out' ≡ sets out to (leaf_payload v)

pub record LeafMakes (s : List ℕ) (at b to k : ℕ) (out out' : List ℕ) (p : Position) : Type 0 where
  pub made : (v : Leaf) (r : List ℕ) → leaf_of b (drop at s) ≡ framed v r → LeafMade s to k out out' p v r

pub record LeafReady (s : List ℕ) (at b to : ℕ) (out : List ℕ) : Type 0 where
  pub v : Leaf
  pub r : List ℕ
  pub reads : leaf_of b (drop at s) ≡ framed v r
  pub bytes : Bytes s
  pub short : length s ≤ 65536
  pub inside : at ≤ length s
  pub room : to + length (leaf_payload v) ≤ length out

-- a container's header: x is its work number, and `named` says whether the fields have names
pub record HasOpened (named : Bool) (to k : ℕ) (out out' w w' : List ℕ) (x : ℕ) (h : Opened) : Type 0 where
  pub is_count : h.count ≡ to + length (encoded (size_in x))
  pub is_to : h.to ≡ h.count + width_in x + length (shared_part named (uniform_in x) (shared_in x))
  pub is_typed_law : h.typed ≡ not (uniform_in x)
  pub is_out : out' ≡ sets (sets out to (encoded (size_in x))) (h.count + width_in x) (shared_part named (uniform_in x) (shared_in x))
  pub is_work : w' ≡ set w k (size_in x)

pub record CanOpen (named : Bool) (to k : ℕ) (out w : List ℕ) (x : ℕ) : Type 0 where
  pub mine : k < length w
  pub room : to + length (encoded (size_in x)) + width_in x + length (shared_part named (uniform_in x) (shared_in x)) ≤ length out

-- a field, with its type byte and its name
abbrev pub part_of : (d : ℕ) → Bool → Bool → List ℕ × Tree d → List ℕ
part_of d named typed x = field_part named typed (kind_of d) (payload_of d) x

pub record Made (total k to : ℕ) (bytes sizes out out' w w' : List ℕ) (p : Position) (r : List ℕ) : Type 0 where
  pub next : p.next ≡ total - length r
  pub on : p.to ≡ to + length bytes
  pub more : p.opened ≡ k + length sizes
  pub is_out : out' ≡ sets out to bytes
  pub is_work : w' ≡ sets w k sizes

-- what was read at a place, and that its numbers stand among the work numbers
pub record FieldGiven (d : ℕ) (s : List ℕ) (at : ℕ) (named : Bool) (k : ℕ) (w : List ℕ) (x : List ℕ × Tree d) (r : List ℕ) : Type 0 where
  pub used : List (List ℕ)
  pub more : List ℕ
  pub reads : read_frames d (mode_of named used) (drop at s) ≡ framed x r
  pub holds : drop k w ≡ packs_of d x.1 ++ more
  pub bytes : Bytes s
  pub short : length s ≤ 65536

pub record FieldReady (d : ℕ) (s : List ℕ) (at : ℕ) (named typed : Bool) (to k : ℕ) (out w : List ℕ) : Type 0 where
  pub x : List ℕ × Tree d
  pub r : List ℕ
  pub given : FieldGiven d s at named k w x r
  pub room : to + length (part_of d named typed x) ≤ length out

pub record FieldMakes (d : ℕ) (s : List ℕ) (at : ℕ) (named typed : Bool) (to k : ℕ) (out out' w w' : List ℕ) (p : Position) : Type 0 where
  pub made : (x : List ℕ × Tree d) (r : List ℕ) → FieldGiven d s at named k w x r → Made (length s) k to (part_of d named typed x) (sizes_of d x.1) out
      out' w w' p r

pub record ContentsGiven (d : ℕ) (s : List ℕ) (at : ℕ) (named : Bool) (k : ℕ) (w : List ℕ) (t : Tree (suc d)) (r : List ℕ) : Type 0 where
  pub more : List ℕ
  pub reads : container_of named (read_frames d) (drop at s) ≡ framed t r
  pub holds : drop k w ≡ packs_of (suc d) t ++ more
  pub inside : at ≤ length s
  pub bytes : Bytes s
  pub short : length s ≤ 65536

pub record ContentsReady (d : ℕ) (s : List ℕ) (at : ℕ) (named : Bool) (to k : ℕ) (out w : List ℕ) : Type 0 where
  pub t : Tree (suc d)
  pub r : List ℕ
  pub given : ContentsGiven d s at named k w t r
  pub room : to + length (payload_of (suc d) t) ≤ length out

pub record ContentsMakes (d : ℕ) (s : List ℕ) (at : ℕ) (named : Bool) (to k : ℕ) (out out' w w' : List ℕ) (p : Position) : Type 0 where
  pub made : (t : Tree (suc d)) (r : List ℕ) → ContentsGiven d s at named k w t r → Made (length s) k to (payload_of (suc d) t) (sizes_of (suc d) t) out out'
      w w' p r
