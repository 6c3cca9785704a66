-- No second answer, for a number as its VarUInt. Beside each stand wrong programs that the contract rules out.
use Prim.Native.Nat.{ℕ}
use mathlib.Core.List.{List}
use lib.ListN.{length}
use Rattle.number.specs.VarUInt.{encoded}
use Rattle.number.proofs.OneAnswer.{One, one}
use Rattle.encode.specs.Put.{put_at}

-- not: one that takes nine bytes for every number
pub length_one : (v : ℕ) → One (length (encoded v))
length_one v = one (length (encoded v))

-- the answer and the buffer. Not: one that writes a form longer than it has to be; one that writes where it answers that there is no room
pub put_one : (v : ℕ) (out : List ℕ) (at : ℕ) → One (put_at v out at)
put_one v out at = one (put_at v out at)
