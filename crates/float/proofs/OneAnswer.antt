-- No second answer, for the calls on floats.
use Prim.Native.Nat.{ℕ}
use lib.IntN.{ℤ}
use Rattle.number.proofs.OneAnswer.{One, one}
use Rattle.float.specs.Rule.{holds}
use Rattle.float.specs.Width.{is_nan32, is_nan64, widen}
use Rattle.float.specs.Answer.{narrowed, exact}

-- not: one that holds no float; one that holds a NaN
pub float32_holds_one : (bits : ℕ) → One (holds bits)
float32_holds_one bits = one (holds bits)

pub is_nan32_one : (bits : ℕ) → One (is_nan32 bits)
is_nan32_one bits = one (is_nan32 bits)

pub is_nan64_one : (bits : ℕ) → One (is_nan64 bits)
is_nan64_one bits = one (is_nan64 bits)

-- not: one that loses the sign of a NaN, or makes it quiet
pub widen_one : (bits : ℕ) → One (widen bits)
widen_one bits = one (widen bits)

-- not: one that rounds
pub narrow_one : (bits : ℕ) → One (narrowed bits)
narrow_one bits = one (narrowed bits)

-- not: one that rounds 2^53 + 1
pub of_integer_one : (z : ℤ) → One (exact z)
of_integer_one z = one (exact z)
