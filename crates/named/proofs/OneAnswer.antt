-- No second answer, for the checks where names are asked about.
use Prim.Native.Nat.{ℕ}
use mathlib.Core.List.{List}
use Rattle.number.proofs.OneAnswer.{One, one}
use Rattle.faults.specs.declared.Modes.{Modes}
use Rattle.named.specs.Top.{top_within, top_with}

pub check_one : (payload : List ℕ) (modes : Modes) → One (top_within modes payload)
check_one payload modes = one (top_within modes payload)

-- the answer and the table. Not: one whose answer depends on the table; one that leaves entries in it
pub check_with_one : (payload : List ℕ) (modes : Modes) (table : List ℕ) → One (top_with modes payload table)
check_with_one payload modes table = one (top_with modes payload table)
