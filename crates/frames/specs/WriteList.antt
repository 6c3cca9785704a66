-- The write list: frames read to a tree, or the first faulty frame (document 01, "The write list"). A refusal carries what of the list is left
-- from the faulty frame on.
use Rattle.std.specs.Prelude.{ℕ, zero, suc, Bool, true, false, ◌||◌, cond, List, [], ◌∷◌, map, length, eqb, Option, None, Some}
use Rattle.std.proofs.Math.Option.{Option as Optional, none, some}
use Rattle.text.specs.Equal.{equal}
use Rattle.format.specs.declared.Kind.{Kind}
use Rattle.frames.specs.declared.Refusal.{Refusal}
use Rattle.frames.specs.declared.Refusal.TheVariants.{ListEnds, BadFrame, EmptyName, NameUsed, NotText, TooDeep, NoneOpen, Complete}
use Rattle.format.specs.Kinds.{known, any}
use Rattle.format.specs.declared.Flaw.TheVariants.{Blank, Long, Low, NotUtf8}
use Rattle.format.specs.Parse.{Out, fault, got}
use Rattle.format.specs.Names.{read_name}
use Rattle.format.specs.Mask.{has}
use Rattle.format.specs.Tree.{Leaf, Node, atom, array, object, Tree}
use Rattle.format.specs.Payload.{Payload, leaf, fields, shared_fields, items, shared_items, payload}

pub data Frames (A : Type 0) : Type 0 where
  refused : Refusal → List ℕ → Frames A
  framed : A → List ℕ → Frames A

abbrev pub next : {A B : Type 0} → Frames A → (A → List ℕ → Frames B) → Frames B
next (refused n r) g = refused n r
next (framed a r) g = g a r

-- ---- a frame f, of which s is left

-- 03 and 05 are no writable kinds
abbrev pub is_writable : Payload → Bool
is_writable (leaf p) = true
is_writable fields = true
is_writable shared_fields = false
is_writable items = true
is_writable shared_items = false

abbrev pub frame_kind : List ℕ → Option Kind → List ℕ → Frames Kind
frame_kind f None s = refused BadFrame f
frame_kind f (Some k) s = cond (is_writable (payload k)) (framed k s) (refused BadFrame f)

-- a name read, behind the names that the object has: 2, 3, 5, 4
abbrev pub name_found : List ℕ → List (List ℕ) → Out (List ℕ) → Frames (List ℕ)
name_found f used (fault k) = refused BadFrame f
name_found f used (got n fs r) =
    cond (has Long fs) (refused BadFrame f)
    (cond (has Blank fs) (refused EmptyName f)
    (cond (has NotUtf8 fs) (refused NotText f)
    (cond (any (equal n) used) (refused NameUsed f)
    (framed n r))))

-- inside an object a frame has a name
abbrev pub frame_name : List ℕ → Optional (List (List ℕ)) → List ℕ → Frames (List ℕ)
frame_name f none s = framed [] s
frame_name f (some used) s = name_found f used (read_name s)

-- a leaf read: 2, 5. A Float64 that Float32 holds is no fault here
abbrev pub leaf_found : List ℕ → Out Leaf → Frames Leaf
leaf_found f (fault k) = refused BadFrame f
leaf_found f (got v fs r) =
    cond (has Long fs || has Low fs) (refused BadFrame f)
    (cond (has NotUtf8 fs) (refused NotText f)
    (framed v r))

-- ---- frames up to the close, which is eaten. `p` reads one, knowing the names before it. The number bounds how many there are, and the length is enough
abbrev pub until_close : {A : Type 0} → (List (List ℕ) → List ℕ → Frames (List ℕ × A)) → ℕ → List (List ℕ) → List ℕ → Frames (List (List ℕ × A))
until_close p zero used s = refused ListEnds []
until_close p (suc n) used [] = refused ListEnds []
until_close p (suc n) used (b ∷ s) =
    cond (eqb b 0) (framed [] s)
    (next (p used (b ∷ s)) λ x r. next (until_close p n (x.0 ∷ used) r) λ xs q. framed (x ∷ xs) q)

-- ---- one layer: `p` reads the fields
abbrev pub FrameReader : Type 0 → Type 0
FrameReader A = Optional (List (List ℕ)) → List ℕ → Frames (List ℕ × A)

abbrev pub frame_payload : {A : Type 0} → FrameReader A → List ℕ → Payload → List ℕ → Frames (Node A)
frame_payload p f (leaf q) s = next (leaf_found f (q s)) λ v r. framed (atom v) r
frame_payload p f fields s = next (until_close (λ used. p (some used)) (length s) [] s) λ xs r. framed (object xs) r
frame_payload p f shared_fields s = refused BadFrame f
frame_payload p f items s = next (until_close (λ used. p none) (length s) [] s) λ xs r. framed (array (map (λ x. x.1) xs)) r
frame_payload p f shared_items s = refused BadFrame f

abbrev pub frame : {A : Type 0} → FrameReader A → FrameReader (Node A)
frame p names [] = refused ListEnds []
frame p names (b ∷ s) =
    next (frame_kind (b ∷ s) (known b) s) λ k r.
    next (frame_name (b ∷ s) names r) λ n q.
    next (frame_payload p (b ∷ s) (payload k) q) λ t u. framed (n, t) u

-- a field with d levels left
unfoldable pub read_frames : (d : ℕ) → FrameReader (Tree d)
read_frames zero names s = refused TooDeep s
read_frames (suc d) names s = frame (read_frames d) names s

-- ---- the whole list
abbrev pub only : {A : Type 0} → List ℕ × A → List ℕ → Frames A
only x [] = framed x.1 []
only x (b ∷ r) = refused Complete (b ∷ r)

unfoldable pub read_list : (d : ℕ) → List ℕ → Frames (Tree d)
read_list d [] = refused ListEnds []
read_list d (b ∷ s) = cond (eqb b 0) (refused NoneOpen (b ∷ s)) (next (read_frames d none (b ∷ s)) only)
