use native.Mathlib.Omega.{arith}
use Rattle.output.proofs.EncodedReturns.{final_container, final_held, final_kept, final_other}
use Rattle.output.proofs.final_id.Goals as goal

pub returns-in-2 : goal.returns-in-2
returns-in-2 c = final_container _ _ _ _ c.in-2.is _ _ c.is_uniform_in.ensures c.container_id.ensures

pub returns-in-11 : goal.returns-in-11
returns-in-11 c = final_held _ _ _ _ c.in-11.is _ _ c.bits_at.ensures c.float32_holds.ensures c.if-float32_holds.true

pub returns-in_default : goal.returns-in_default
returns-in_default c = final_kept _ _ _ _ c.in-11.is _ _ c.bits_at.ensures c.float32_holds.ensures c.if-float32_holds.false

pub returns-in_default-2 : goal.returns-in_default-2
returns-in_default-2 c = final_other _ _ _ _ (λ e. grind arith) (λ e. grind arith) (λ e. grind arith)
