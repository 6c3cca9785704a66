-- `text::advance` meets its contract: an ASCII byte with those behind it, or one wider character.
use native.Mathlib.Omega.{arith}
use Rattle.text.proofs.Steps.{passed_run}
use Rattle.text.proofs.advance.Goals as goal

pub returns-then-part-at-lt128 : goal.returns-then-part-at-lt128
returns-then-part-at-lt128 c = (omega arith, passed_run _ _ _ (omega arith) c.if-part-at-lt128.true (omega arith) c.ascii_run.ensures.1)
