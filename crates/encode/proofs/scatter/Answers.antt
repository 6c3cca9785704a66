use native.Mathlib.Omega.{arith}
use Rattle.encode.proofs.PutLaws.{scattered_again}
use Rattle.encode.proofs.scatter.Goals as goal

pub loop-i-preserved : goal.loop-i-preserved
loop-i-preserved c = scattered_again _ _ _ _ _ _ _ c.loop-i.invariant (omega arith) (omega arith)
