use native.Mathlib.Omega.{arith}
use mathlib.Core.Path.{refl}
use Rattle.text.proofs.Steps.{passed_none, passed_ascii}
use Rattle.text.proofs.ascii_bytes.Goals as goal

pub loop-to-init : goal.loop-to-init
loop-to-init c = passed_none _ _ _ (omega arith) refl

pub loop-to-preserved : goal.loop-to-preserved
loop-to-preserved c = passed_ascii _ _ _ _ c.loop-to.invariant (omega arith) c.if-part-to-ge128.false refl
