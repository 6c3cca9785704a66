-- No second answer: the name at a position, and the first twin with what the table holds afterwards.
use Prim.Native.Nat.{ℕ}
use mathlib.Core.List.{List}
use Rattle.number.proofs.OneAnswer.{One, one}
use Rattle.select.specs.declared.Source.{Source}
use Rattle.select.specs.Source.{named_at, searched}

pub name_at_one : (source : Source) (part : List ℕ) (at : ℕ) → One (named_at source at part)
name_at_one source part at = one (named_at source at part)

pub first_twin_one : (source : Source) (part table : List ℕ) → One (searched source part table)
first_twin_one source part table = one (searched source part table)
