-- No second answer, for the calls on notes.
use Prim.Native.Nat.{ℕ}
use mathlib.Core.List.{List}
use Rattle.number.proofs.OneAnswer.{One, one}
use Rattle.select.specs.declared.Source.{Source}
use Rattle.notes.specs.declared.Notes.{Notes}
use Rattle.notes.specs.Notes.{held_in, added, told}

pub held_one : (notes : Notes) → One (held_in notes)
held_one notes = one (held_in notes)

-- the notes and the table. Not: one that goes on noting in a full table; one for which names that do not ascend are rising
pub add_one : (part table : List ℕ) (notes : Notes) (x : ℕ) → One (added part table notes x)
add_one part table notes x = one (added part table notes x)

-- the answer and the table. Not: one that takes the few notes for all where there are more
pub first_twin_one : (source : Source) (part table : List ℕ) (notes : Notes) → One (told source part table notes)
first_twin_one source part table notes = one (told source part table notes)
