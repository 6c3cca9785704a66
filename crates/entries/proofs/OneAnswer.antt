-- No second answer, for the calls on entries.
use Prim.Native.Nat.{ℕ}
use mathlib.Core.List.{List}
use lib.ListN.{length, replicate}
use Rattle.number.proofs.OneAnswer.{One, one}
use Rattle.entries.specs.Entry.{begin_in, length_in, entry_of}
use Rattle.entries.specs.Least.{lesser}

-- not: one that answers 0 for every name; one whose entries of equal names in two places differ in more than the place
pub entry_one : (part : List ℕ) (begin end : ℕ) → One (entry_of part begin end)
entry_one part begin end = one (entry_of part begin end)

pub begin_of_one : (x : ℕ) → One (begin_in x)
begin_of_one x = one (begin_in x)

pub length_of_one : (x : ℕ) → One (length_in x)
length_of_one x = one (length_in x)

pub lesser_one : (a b : ℕ) → One (lesser a b)
lesser_one a b = one (lesser a b)

-- what the table holds. Not: one that leaves the last number
pub clear_one : (table : List ℕ) → One {A = List ℕ} (replicate (length table) 0)
clear_one table = one (replicate (length table) 0)
