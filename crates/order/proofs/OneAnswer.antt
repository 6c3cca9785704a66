-- No second answer, for the call on tables.
use Prim.Native.Nat.{ℕ}
use mathlib.Core.List.{List}
use Rattle.number.proofs.OneAnswer.{One, one}
use Rattle.order.specs.Arranged.{arranged}

-- the answer and the table. Not: one that leaves entries of one name in the order in which they came; one that leaves in the room what stood there
pub arrange_one : (part table : List ℕ) (n : ℕ) → One (arranged part table n)
arrange_one part table n = one (arranged part table n)
