-- No second answer: the one equation that each call ensures fixes what it answers, and every number of the table.
use Rattle.std.specs.Prelude.{Result}
use Prim.Native.Nat.{ℕ}
use mathlib.Core.List.{List}
use Rattle.number.proofs.OneAnswer.{One, one}
use Rattle.notes.specs.declared.Notes.{Notes}
use Rattle.naming.specs.Names.{noted_by, ended_by}
use Rattle.settle.specs.declared.Measured.{Measured}
use Rattle.frames.specs.declared.Refused.{Refused}

pub note_one : (list : List ℕ) (at : ℕ) (table : List ℕ) (notes : Notes) (begin end : ℕ) → One (noted_by list at table notes begin end)
note_one list at table notes begin end = one (noted_by list at table notes begin end)

pub ended_one : (list : List ℕ) (at : ℕ) (table : List ℕ) (notes : Notes) (reach left : ℕ) (measured : Result Measured Refused)
    → One (ended_by left list at table notes reach measured)
ended_one list at table notes reach left measured = one (ended_by left list at table notes reach measured)
