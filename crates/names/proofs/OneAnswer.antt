-- No second answer, for where a name stands.
use Prim.Native.Nat.{ℕ}
use mathlib.Core.List.{List}
use Rattle.number.proofs.OneAnswer.{One, one}
use Rattle.format.specs.declared.Form.{Form}
use Rattle.names.specs.FieldNames.{name_at}

pub name_at_one : (form : Form) (part : List ℕ) (at : ℕ) → One (name_at form at part)
name_at_one form part at = one (name_at form at part)
