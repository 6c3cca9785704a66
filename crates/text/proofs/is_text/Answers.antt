use native.Mathlib.Omega.{arith}
use mathlib.Core.Path.{refl}
use Rattle.text.proofs.Steps.{passed_on, text_not, text_done}
use Rattle.text.proofs.is_text.Goals as goal

pub returns-in_default : goal.returns-in_default
returns-in_default c = text_not _ _ c.loop-at.invariant.1 _ c.in_default.ensures

pub loop-at-preserved : goal.loop-at-preserved
loop-at-preserved c = (c.in-Some.ensures.1.fits refl, passed_on _ _ _ _ _ _ c.loop-at.invariant.1 c.in-Some.ensures.1)

pub returns : goal.returns
returns c = text_done _ _ c.loop-at.invariant.1 (omega arith)
