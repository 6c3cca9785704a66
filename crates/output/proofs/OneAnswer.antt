-- No second answer, for what is copied into the output, and for what is asked again of a frame.
use Prim.Native.Nat.{ℕ}
use mathlib.Core.List.{List}
use Rattle.number.proofs.OneAnswer.{One, one}
use Rattle.output.specs.Copied.{copied}
use Rattle.output.specs.Encoded.{bits_at, final_id}

-- the output. Not: one that writes as many bytes as there is room for
pub copy_one : (list : List ℕ) (from end : ℕ) (output : List ℕ) (to : ℕ) → One (copied list from end output to)
copy_one list from end output to = one (copied list from end output to)

pub bits_at_one : (list : List ℕ) (at : ℕ) → One (bits_at list at)
bits_at_one list at = one (bits_at list at)

pub final_id_one : (list : List ℕ) (kind start x : ℕ) → One (final_id list kind start x)
final_id_one list kind start x = one (final_id list kind start x)
