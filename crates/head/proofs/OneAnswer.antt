-- No second answer, for the head of a field.
use Prim.Native.Nat.{ℕ}
use mathlib.Core.List.{List}
use Rattle.number.proofs.OneAnswer.{One, one}
use Rattle.format.specs.declared.Kind.{Kind}
use Rattle.format.specs.declared.Form.{Form}
use Rattle.faults.specs.declared.Modes.{Modes}
use Rattle.faults.specs.declared.Faults.{Faults}
use Rattle.head.specs.Pieces.{fixed_size}
use Rattle.head.specs.Code.{head_at, meet_at}

pub fixed_size_one : (kind : Kind) → One (fixed_size kind)
fixed_size_one kind = one (fixed_size kind)

module _ (modes : Modes) (faults : Faults) (part : List ℕ) where
  pub meet_of_one : (form : Form) → One (meet_at form modes faults part)
  meet_of_one form = one (meet_at form modes faults part)

  pub head_of_one : (kind : Kind) → One (head_at kind modes faults part)
  head_of_one kind = one (head_at kind modes faults part)
