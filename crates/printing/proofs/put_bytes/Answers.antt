use native.Mathlib.Omega.{arith}
use mathlib.Core.Path.{◌≡◌}
use lib.ListN.{length}
use Rattle.printing.proofs.TextLaws.{bytes_on, bytes_end}
use Rattle.printing.proofs.put_bytes.Goals as goal

pub loop-i-preserved : goal.loop-i-preserved
loop-i-preserved c = bytes_on _ _ _ _ _ _ c.loop-i-test.true c.loop-i.invariant c.hex_digit.ensures c.hex_digit-in-loop-i.ensures

pub returns : goal.returns
returns c = let n : c.loop-i.i ≡ length c.args.part.now = omega arith in bytes_end _ _ _ (rw n at c.loop-i.invariant)
