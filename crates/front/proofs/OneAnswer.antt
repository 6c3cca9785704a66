-- No second answer, for what stands before a payload.
use Prim.Native.Nat.{ℕ}
use mathlib.Core.List.{List}
use Rattle.number.proofs.OneAnswer.{One, one}
use Rattle.format.specs.declared.Kind.{Kind}
use Rattle.format.specs.declared.Form.{Form}
use Rattle.format.specs.declared.Form.TheVariants.{SharedField}
use Rattle.faults.specs.declared.Modes.{Modes}
use Rattle.faults.specs.declared.Faults.{Faults}
use Rattle.front.specs.Code.{front_at}
use Rattle.front.specs.Pieces.{span_at, text_at}

module _ (modes : Modes) (faults : Faults) (part : List ℕ) where
  pub span_of_one : One (span_at modes faults part)
  span_of_one = one (span_at modes faults part)

  pub text_of_one : One (text_at modes faults part)
  text_of_one = one (text_at modes faults part)

  pub front_of_one : (form : Form) → One (front_at form modes faults part)
  front_of_one form = one (front_at form modes faults part)

  pub name_of_one : (kind : Kind) → One (front_at (SharedField kind) modes faults part)
  name_of_one kind = one (front_at (SharedField kind) modes faults part)
