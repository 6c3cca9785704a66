-- Frames read whatever names were used (document 01, "The write list"). Nothing here has to be believed: proofs/StrictLaws.antt tells the write list's
-- reader by it and by the names that it meets.
use Rattle.std.specs.Prelude.{ℕ, zero, suc, Bool, true, false, cond, List, [], ◌∷◌, eqb}
use Rattle.std.proofs.Math.Option.{Option, none, some}
use Rattle.format.specs.Tree.{Tree}
use Rattle.frames.specs.declared.Refusal.TheVariants.{ListEnds, TooDeep, NoneOpen}
use Rattle.frames.specs.WriteList.{Frames, refused, next, FrameReader, frame, only}
use Rattle.frames.specs.FramePieces.{mode_of}

-- inside an object
abbrev pub has_names : Option (List (List ℕ)) → Bool
has_names none = false
has_names (some used) = true

-- a reader that knows only whether frames have names
abbrev pub LaxReader : Type 0 → Type 0
LaxReader A = Bool → List ℕ → Frames (List ℕ × A)

-- as a reader of frames, to which the names before a frame are nothing
abbrev pub heedless : {A : Type 0} → LaxReader A → FrameReader A
heedless l names = l (has_names names)

unfoldable pub lax : (d : ℕ) → LaxReader (Tree d)
lax zero named s = refused TooDeep s
lax (suc d) named s = frame (heedless (lax d)) (mode_of named []) s

unfoldable pub lax_list : (d : ℕ) → List ℕ → Frames (Tree d)
lax_list d [] = refused ListEnds []
lax_list d (b ∷ s) = cond (eqb b 0) (refused NoneOpen (b ∷ s)) (next (lax d false (b ∷ s)) only)
