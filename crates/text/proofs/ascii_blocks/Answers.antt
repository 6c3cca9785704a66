use native.Mathlib.Omega.{arith}
use Prim.Native.Nat.{◌+◌, ◌-◌}
use mathlib.Core.Path.{◌≡◌, refl, sym}
use Rattle.text.proofs.Steps.{passed_none, passed_on, passed_block}
use Rattle.text.proofs.ascii_blocks.Goals as goal

pub loop-to-init : goal.loop-to-init
loop-to-init c = (omega arith, omega arith, passed_none _ _ _ (omega arith) refl)

pub loop-to-preserved : goal.loop-to-preserved
loop-to-preserved c =
    let n : c.loop-to.to + c.args.size - c.loop-to.to ≡ c.args.size = omega arith in (
      omega arith,
      omega arith,
      passed_on _ _ _ _ _ _ c.loop-to.invariant.2 (passed_block _ _ _ (omega arith) (sym (rw n at c.if-not-ascii_block.ensures))),
    )
