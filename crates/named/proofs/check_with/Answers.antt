use native.Mathlib.Omega.{arith}
use Rattle.named.proofs.TopReturns.{with_top}
use Rattle.named.proofs.check_with.Goals as goal

pub returns : goal.returns
returns c = with_top _ _ _ (omega arith) _ c.top-answer.ensures.0 _ _ c.top-answer.ensures.1 c.clear-2.ensures
