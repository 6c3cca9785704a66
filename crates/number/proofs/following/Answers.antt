use native.Mathlib.Omega.{arith}
use Rattle.number.proofs.VarUIntLaws.{complement_zeros, count_fits}
use Rattle.number.proofs.following.Goals as goal

pub overflow_cast-result : goal.overflow_cast-result
overflow_cast-result c = count_fits _

pub returns : goal.returns
returns c = complement_zeros c.args.first (omega arith)
