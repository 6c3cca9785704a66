-- No second answer, for the faults met so far.
use mathlib.Core.Bool.{Bool}
use Rattle.number.proofs.OneAnswer.{One, one}
use Rattle.format.specs.declared.Flaw.{Flaw}
use Rattle.faults.specs.declared.Modes.{Modes}
use Rattle.faults.specs.declared.Faults.{Faults}
use Rattle.faults.specs.Noted.{nothing, noted, flaw_if, is_noted, sum_in}

pub no_faults_one : One nothing
no_faults_one = one nothing

module _ (faults : Faults) where
  pub note_one : (modes : Modes) (flaw : Flaw) (met : Bool) → One (noted modes faults (flaw_if met flaw))
  note_one modes flaw met = one (noted modes faults (flaw_if met flaw))

  pub has_one : (flaw : Flaw) → One (is_noted flaw faults)
  has_one flaw = one (is_noted flaw faults)

  pub sum_of_one : One (sum_in faults)
  sum_of_one = one (sum_in faults)
