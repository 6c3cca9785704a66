-- No second answer: what the code answers of the pieces of a frame is one equation each.
use Prim.Native.Nat.{ℕ}
use mathlib.Core.Bool.{Bool}
use mathlib.Core.List.{List}
use Rattle.number.proofs.OneAnswer.{One, one}
use Rattle.format.specs.declared.Kind.{Kind}
use Rattle.frames.specs.FramePieces.{writable}
use Rattle.frame.specs.Front.{front_at}
use Rattle.frame.specs.Pieces.{name_of, name_at, name_end, leaf_frame_of, leaf_frame_at, leaf_end, bits_in}

pub kind_one : (b : ℕ) → One (writable b)
kind_one b = one (writable b)

pub name_one : (part : List ℕ) → One (name_of part)
name_one part = one (name_of part)

pub name_at_one : (list : List ℕ) (at : ℕ) → One (name_at list at)
name_at_one list at = one (name_at list at)

pub name_end_one : (part : List ℕ) → One (name_end part)
name_end_one part = one (name_end part)

pub front_at_one : (list : List ℕ) (at : ℕ) (named : Bool) (left : ℕ) → One (front_at left list at named)
front_at_one list at named left = one (front_at left list at named)

pub leaf_one : (part : List ℕ) (kind : Kind) → One (leaf_frame_of kind part)
leaf_one part kind = one (leaf_frame_of kind part)

pub leaf_at_one : (list : List ℕ) (at : ℕ) (kind : Kind) → One (leaf_frame_at kind list at)
leaf_at_one list at kind = one (leaf_frame_at kind list at)

pub leaf_end_one : (part : List ℕ) (b : ℕ) → One (leaf_end b part)
leaf_end_one part b = one (leaf_end b part)

pub bits_one : (part : List ℕ) → One (bits_in part)
bits_one part = one (bits_in part)
