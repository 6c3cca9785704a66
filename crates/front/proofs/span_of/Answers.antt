use native.Mathlib.Omega.{arith}
use Rattle.front.proofs.FrontReturns.{span_part}
use Rattle.front.proofs.span_of.Goals as goal

pub returns : goal.returns
returns c = span_part _ _ _ _ c.read.ensures _ c.in_ok-size.was _ (omega arith) c.note.ensures
