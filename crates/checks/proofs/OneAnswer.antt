-- No second answer, for the check of a field.
use Prim.Native.Nat.{ℕ}
use mathlib.Core.Bool.{Bool}
use mathlib.Core.List.{List}
use Rattle.number.proofs.OneAnswer.{One, one}
use Rattle.format.specs.declared.Form.{Form}
use Rattle.faults.specs.declared.Faults.{Faults}
use Rattle.checks.specs.Checks.{namelessly, field_at}

pub check_one : (form : Form) (format : Bool) (left : ℕ) (faults : Faults) (part : List ℕ) → One (field_at form (namelessly format) left faults part)
check_one form format left faults part = one (field_at form (namelessly format) left faults part)
