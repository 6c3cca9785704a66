-- The frames of one object, read whatever names it has so far; and the first whose name it has already. What is inside a frame is read strictly, so a
-- refusal there is
-- the write list's: it stands behind every frame of the object that was begun.
use Rattle.std.specs.Prelude.{ℕ, zero, suc, cond, List, [], ◌∷◌, length, eqb}
use Rattle.std.proofs.Math.Option.{Option, none, some}
use Rattle.text.specs.Equal.{equal}
use Rattle.format.specs.Kinds.{known, any}
use Rattle.format.specs.Tree.{Tree}
use Rattle.frames.specs.WriteList.{Frames, refused, framed, frame_kind, frame_name, until_close, read_frames}
use Rattle.twins.specs.Events.{after}

-- the name of the frame at s, if its kind and its name are right
abbrev pub frame_named : List ℕ → Option (List ℕ)
frame_named [] = none
frame_named (b ∷ s) = after none (frame_kind (b ∷ s) (known b) s) λ k r. after none (frame_name (b ∷ s) (some []) r) λ n q. some n

-- with d levels left: a frame that is too deep has no name
unfoldable pub own_name : ℕ → List ℕ → Option (List ℕ)
own_name zero s = none
own_name (suc d) s = frame_named s

-- a frame, by what is left from it on, and its name
abbrev pub with_frame : List ℕ → Option (List ℕ) → List (List ℕ × List ℕ) → List (List ℕ × List ℕ)
with_frame f none xs = xs
with_frame f (some n) xs = (f, n) ∷ xs

-- the frames up to the close, or up to the one that is refused: that one is among them if its name is right. `p` reads one, `o` tells its name
unfoldable pub own_until : {X : Type 0} → (List ℕ → Frames X) → (List ℕ → Option (List ℕ)) → ℕ → List ℕ → List (List ℕ × List ℕ)
own_until p o zero s = []
own_until p o (suc n) [] = []
own_until p o (suc n) (b ∷ s) = cond (eqb b 0) [] (with_frame (b ∷ s) (o (b ∷ s)) (after [] (p (b ∷ s)) λ x r. own_until p o n r))

-- of the object whose frames begin at s
abbrev pub own_frames : ℕ → List ℕ → List (List ℕ × List ℕ)
own_frames d s = own_until (read_frames d (some [])) (own_name d) (length s) s

-- the first whose name is among those before it
unfoldable pub first_used : List (List ℕ) → List (List ℕ × List ℕ) → Option (List ℕ)
first_used used [] = none
first_used used (x ∷ xs) = cond (any (equal x.1) used) (some x.0) (first_used (x.1 ∷ used) xs)

-- the frames of that object, whatever names it has so far
abbrev pub freely : (d n : ℕ) → List (List ℕ) → List ℕ → Frames (List (List ℕ × Tree d))
freely d n used s = until_close (λ u. read_frames d (some [])) n used s
