-- No second answer: the one equation that `place_of` ensures fixes what it answers.
use Prim.Native.Nat.{ℕ}
use mathlib.Core.List.{List}
use Rattle.number.proofs.OneAnswer.{One, one}
use Rattle.used.specs.Place.{frame_place}

-- Not: one that tells where the name begins; one that tells the frame behind it
pub place_of_one : (part : List ℕ) (left begin : ℕ) → One (frame_place left part begin)
place_of_one part left begin = one (frame_place left part begin)
