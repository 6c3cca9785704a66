use Prim.Native.Nat.{◌<◌}
use native.Mathlib.Omega.{arith}
use lib.ListN.{length}
use Rattle.number.proofs.BigEndianLaws.{behind_fits}
use Rattle.number.proofs.gather.Goals as goal

pub overflow_mul-value : goal.overflow_mul-value
overflow_mul-value c =
    let h : c.loop-byte.byte-index < length c.args.bytes.now = omega arith in
    omega (arith, behind_fits _ _ _ _ c.loop-byte.invariant h)

pub overflow_add-value : goal.overflow_add-value
overflow_add-value c =
    let h : c.loop-byte.byte-index < length c.args.bytes.now = omega arith in
    omega (arith, behind_fits _ _ _ _ c.loop-byte.invariant h, c.from.ensures)
