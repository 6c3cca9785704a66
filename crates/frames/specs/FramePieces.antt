-- A frame in pieces: what stands before its payload, a leaf, and what a container holds. Nothing here has to be believed: proofs/FrontLaws.antt shows that it
-- is the write list's frame.
use Rattle.std.specs.Prelude.{ℕ, Bool, true, false, cond, List, [], ◌∷◌, length, eqb, Option, None, Some}
use Rattle.std.proofs.Math.Option.{Option as Optional, none, some}
use Rattle.format.specs.declared.Kind.{Kind}
use Rattle.frames.specs.declared.Refusal.TheVariants.{BadFrame}
use Rattle.format.specs.Kinds.{known}
use Rattle.format.specs.Names.{read_name}
use Rattle.format.specs.Payload.{Payload, leaf, fields, shared_fields, items, shared_items, payload}
use Rattle.format.specs.Tree.{Leaf, Node}
use Rattle.frames.specs.WriteList.{Frames, refused, framed, next, frame_kind, frame_name, name_found, leaf_found, until_close, FrameReader}
use Rattle.frames.specs.Container.{node_of}

-- ---- a frame up to its payload

-- 03 and 05 are no writable kinds
unfoldable pub writable : ℕ → Option Kind
writable b = cond (eqb b 3) None (cond (eqb b 5) None (known b))

-- inside an object a frame has a name
abbrev pub mode_of : Bool → List (List ℕ) → Optional (List (List ℕ))
mode_of true used = some used
mode_of false used = none

abbrev pub frame_front : Optional (List (List ℕ)) → List ℕ → Frames (List ℕ × Kind)
frame_front names [] = refused BadFrame []
frame_front names (b ∷ s) = next (frame_kind (b ∷ s) (known b) s) λ k r. next (frame_name (b ∷ s) names r) λ n q. framed (n, k) q

-- behind the kind: the name. A refusal carries the frame g
abbrev pub name_front : List ℕ → Kind → List (List ℕ) → List ℕ → Frames (List ℕ × Kind)
name_front f k used s = next (name_found f used (read_name s)) λ n q. framed (n, k) q

-- ---- a leaf

abbrev pub leaf_by : Payload → List ℕ → Frames Leaf
leaf_by (leaf p) s = leaf_found s (p s)
leaf_by fields s = refused BadFrame s
leaf_by shared_fields s = refused BadFrame s
leaf_by items s = refused BadFrame s
leaf_by shared_items s = refused BadFrame s

abbrev pub IsLeaf : Payload → Type 0
IsLeaf (leaf p) = Unit {0}
IsLeaf fields = ⊥
IsLeaf shared_fields = ⊥
IsLeaf items = ⊥
IsLeaf shared_items = ⊥

abbrev pub leaf_known : Option Kind → List ℕ → Frames Leaf
leaf_known None s = refused BadFrame s
leaf_known (Some k) s = leaf_by (payload k) s

-- the leaf of this kind
unfoldable pub leaf_of : ℕ → List ℕ → Frames Leaf
leaf_of b s = leaf_known (known b) s

-- ---- the frames of a container

abbrev pub contents_by : {A : Type 0} → Bool → FrameReader A → ℕ → List (List ℕ) → List ℕ → Frames (List (List ℕ × A))
contents_by named p n used s = until_close (λ u. p (mode_of named u)) n used s

unfoldable pub container_of : {A : Type 0} → Bool → FrameReader A → List ℕ → Frames (Node A)
container_of named p s = next (contents_by named p (length s) [] s) λ xs r. framed (node_of named xs) r
