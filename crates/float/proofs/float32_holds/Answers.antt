-- `float32_holds` is the float rule: the zeros that 2^52 + f ends in say which powers of 2 divide it.
use Rattle.float.proofs.Zeros.{by_zeros}
use Rattle.float.proofs.float32_holds.Goals as goal

pub returns : goal.returns
returns c = rw c.from-zeros.ensures (by_zeros c.args.bits)
