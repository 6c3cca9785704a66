use native.Mathlib.Omega.{arith}
use Rattle.front.proofs.FrontReturns.{type_told}
use Rattle.front.proofs.type_of.Goals as goal

pub returns : goal.returns
returns c = type_told _ _ _ _ (λ z. omega arith) c.kind_at.ensures c.ok_or.ensures.value
