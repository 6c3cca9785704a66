-- No second answer, for the call on the entries of a table.
use Prim.Native.Nat.{ℕ}
use mathlib.Core.List.{List}
use Rattle.number.proofs.OneAnswer.{One, one}
use Rattle.divide.specs.Divided.{divided}

-- the answer and the table. Not: one that tells the last twin; one that leaves the entries in the table, divided as far as it came
pub first_twin_one : (part table : List ℕ) (n : ℕ) → One (divided part table n)
first_twin_one part table n = one (divided part table n)
