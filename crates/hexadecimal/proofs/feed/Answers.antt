use native.Mathlib.Omega.{arith}
use mathlib.Core.Path.{refl, sym}
use Rattle.hexadecimal.proofs.TypingLaws.{fed_on, fed_end}
use Rattle.hexadecimal.proofs.feed.Goals as goal

pub loop-c-init : goal.loop-c-init
loop-c-init c = refl

pub loop-c-preserved : goal.loop-c-preserved
loop-c-preserved c = fed_on c.args.text.now c.loop-c.c-index c.loop-c.typing _ c.loop-c.list _ _ c.loop-c-test.true c.loop-c.invariant c.one-typing.ensures

pub returns : goal.returns
returns c = sym (fed_end _ c.loop-c.c-index _ _ _ (omega arith) c.loop-c.invariant)
