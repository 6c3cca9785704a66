-- What the first pass answers, of the tree that the list describes.
use Rattle.std.specs.Prelude.{ℕ, suc, ◌+◌, ◌-◌, ◌≤◌, ◌≡◌, Bool, true, false, cond, List, [], length, drop, set, eqb, Ok, Result, Err}
use Rattle.std.proofs.lemmas.List.Edits.{sets}
use Rattle.number.specs.BigEndian.{Bytes}
use Rattle.number.specs.VarUInt.{encoded}
use Rattle.format.specs.declared.Kind.{Kind}
use Rattle.format.specs.Kinds.{id}
use Rattle.format.specs.Payload.{payload}
use Rattle.format.specs.Tree.{Tree}
use Rattle.format.specs.Encoding.{kind_of, payload_of}
use Rattle.frames.specs.WriteList.{Frames, refused, framed, frame_payload, read_frames}
use Rattle.frames.specs.Container.{container_id, size_by, packed, name_part, packs_of}
use Rattle.run.specs.Run.{uniform}
use Rattle.frames.specs.FramePieces.{mode_of, container_of}
use Rattle.frame.specs.declared.LeafFrame.{LeafFrame}
use Rattle.frames.specs.declared.Refusal.{Refusal}
use Rattle.frames.specs.declared.Refused.{Refused}
use Rattle.frames.specs.Writer.{refused_at}
use Rattle.settle.specs.declared.Measured.{Measured}
use Rattle.settle.specs.Made.{measured}

-- a kind of the write list that has no contents
abbrev pub is_leaf : Kind → Bool
is_leaf k = cond (eqb (id k) 2) false (cond (eqb (id k) 4) false true)

-- a leaf, with what stands before it
abbrev pub leaf_measured : ℕ → ℕ → ℕ → Result LeafFrame Refusal → Result Measured Refused
leaf_measured at before k (Err n) = refused_at n at
leaf_measured at before k (Ok p) = measured p.end p.id (before + p.size) k

-- a payload: the name before it takes `before` bytes
abbrev pub payload_measured : (d total before k : ℕ) → Frames (Tree d) → Result Measured Refused
payload_measured d total before k (refused n r) = refused_at n (total - length r)
payload_measured d total before k (framed t r) = measured (total - length r) (id (kind_of d t)) (before + length (payload_of d t)) (k + length (packs_of d t))

abbrev pub field_measured : (d total : ℕ) (named : Bool) (k : ℕ) → Frames (List ℕ × Tree d) → Result Measured Refused
field_measured d total named k (refused n r) = refused_at n (total - length r)
field_measured d total named k (framed x r) =
    measured (total - length r) (id (kind_of d x.1)) (length (name_part named x.0) + length (payload_of d x.1)) (k + length (packs_of d x.1))

-- the work numbers after the tree's numbers are put at k; after a refusal any
abbrev pub payload_work : (d k : ℕ) → List ℕ → List ℕ → Frames (Tree d) → List ℕ
payload_work d k w w' (refused n r) = w'
payload_work d k w w' (framed t r) = sets w k (packs_of d t)

abbrev pub field_work : (d k : ℕ) → List ℕ → List ℕ → Frames (List ℕ × Tree d) → List ℕ
field_work d k w w' (refused n r) = w'
field_work d k w w' (framed x r) = sets w k (packs_of d x.1)

pub record PayloadBy (d total before k : ℕ) (w w' : List ℕ) (m : Result Measured Refused) (o : Frames (Tree d)) : Type 0 where
  pub answer : m ≡ payload_measured d total before k o
  pub work : w' ≡ payload_work d k w w' o

pub record FieldBy (d total : ℕ) (named : Bool) (k : ℕ) (w w' : List ℕ) (m : Result Measured Refused) (o : Frames (List ℕ × Tree d)) : Type 0 where
  pub answer : m ≡ field_measured d total named k o
  pub work : w' ≡ field_work d k w w' o

-- the fields of an object or the items of an array
abbrev pub ContentsAt : (d : ℕ) (s : List ℕ) (at before : ℕ) (named : Bool) (k : ℕ) (w w' : List ℕ) (m : Result Measured Refused) → Type 0
ContentsAt d s at before named k w w' m = PayloadBy (suc d) (length s) before k w w' m (container_of named (read_frames d) (drop at s))

-- the payload from `start` on, of the frame at `at`
abbrev pub PayloadAt : (d : ℕ) (s : List ℕ) (at start : ℕ) (kind : Kind) (k : ℕ) (w w' : List ℕ) (m : Result Measured Refused) → Type 0
PayloadAt d s at start kind k w w' m =
    PayloadBy (suc d) (length s) (start - (at + 1)) k w w' m (frame_payload (read_frames d) (drop at s) (payload kind) (drop start s))

-- the frame, whatever names were used
abbrev pub FieldAt : (d : ℕ) (s : List ℕ) (at : ℕ) (named : Bool) (k : ℕ) (w w' : List ℕ) (m : Result Measured Refused) → Type 0
FieldAt d s at named k w w' m = FieldBy d (length s) named k w w' m (read_frames d (mode_of named []) (drop at s))

-- what the pass is lent: a list of bytes that is not too long; and the containers that were opened before `at`, of which there are k, took a byte each
pub record Lent (s : List ℕ) (at k : ℕ) : Type 0 where
  pub bytes : Bytes s
  pub short : length s ≤ 65536
  pub few_numbers : k ≤ at

-- a container that is closed at `at`, of whose n fields or items c is shared, and `sum` what their names and payloads take: the k-th number is its own
pub record ClosedBy (named : Bool) (c n sum at before k j : ℕ) (w w' : List ℕ) (m : Result Measured Refused) : Type 0 where
  pub answer : m ≡ measured (at + 1) (container_id named (uniform named c)) (before + (length (encoded (size_by named c n sum)) + size_by named c n sum)) j
  pub work : w' ≡ set w k (packed named c n (size_by named c n sum))

-- the sum of a leaf and what stands before it fits
abbrev pub LeafSmall : Result LeafFrame Refusal → ℕ → Type 0
LeafSmall (Err n) before = 0 ≤ 0
LeafSmall (Ok p) before = before + p.size ≤ 1048576
