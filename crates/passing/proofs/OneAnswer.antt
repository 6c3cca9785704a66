-- No second answer, for the name of a frame at a position.
use Prim.Native.Nat.{ℕ}
use mathlib.Core.List.{List}
use Rattle.number.proofs.OneAnswer.{One, one}
use Rattle.passing.specs.FrameNames.{name_at}

pub name_at_one : (part : List ℕ) (at left : ℕ) → One (name_at left at part)
name_at_one part at left = one (name_at left at part)
