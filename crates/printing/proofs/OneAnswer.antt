-- No second answer, for what is put into the text: where the next character goes, and the text.
use Prim.Native.Nat.{ℕ}
use mathlib.Core.List.{List}
use Rattle.number.proofs.OneAnswer.{One, one}
use Rattle.printing.specs.Text.{put_in}

-- whatever is put, and whatever room that takes
pub put_in_one : (room : ℕ) (characters text : List ℕ) → One (put_in room characters text)
put_in_one room characters text = one (put_in room characters text)
