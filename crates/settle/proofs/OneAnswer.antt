-- No second answer: the one equation that `decided` ensures fixes what it answers.
use Rattle.std.specs.Prelude.{Result}
use Prim.Native.Nat.{ℕ}
use Rattle.number.proofs.OneAnswer.{One, one}
use Rattle.settle.specs.Decided.{decided_of}
use Rattle.settle.specs.declared.Measured.{Measured}
use Rattle.frames.specs.declared.Refused.{Refused}

pub decided_one : (measured : Result Measured Refused) (list room numbers : ℕ) → One (decided_of measured list room numbers)
decided_one measured list room numbers = one (decided_of measured list room numbers)
