use native.Mathlib.Omega.{arith}
use Prim.Native.Nat.{◌+◌}
use mathlib.Core.Path.{◌≡◌, refl, sym, ◌∙◌}
use Rattle.text.proofs.First.{contained}
use Rattle.text.proofs.Steps.{follow_short, follow_out, follow_in, follow_all}
use Rattle.text.proofs.follow.Goals as goal

pub returns-then-part-at : goal.returns-then-part-at
returns-then-part-at g c = follow_short _ _ _ (omega arith) c.requires.1 (omega arith)

pub loop-k-init : goal.loop-k-init
loop-k-init g c = let z : c.args.at + 1 + 0 ≡ c.args.at + 1 = omega arith in rw z refl

pub returns-then-not-contains : goal.returns-then-not-contains
returns-then-not-contains g c = follow_out _ _ _ (omega arith) c.requires.1 c.loop-k.k c.loop-k.invariant (omega arith) (omega arith) (sym (c.contains.ensures.value ∙ contained _ _ _ _ _ c.new.ensures.start c.new.ensures.end c.new.ensures.exhausted) ∙ c.if-not-contains.true)

pub loop-k-preserved : goal.loop-k-preserved
loop-k-preserved g c = follow_in _ _ _ (omega arith) c.requires.1 c.loop-k.k c.loop-k.invariant (omega arith) (omega arith) (sym (c.contains.ensures.value ∙ contained _ _ _ _ _ c.new.ensures.start c.new.ensures.end c.new.ensures.exhausted) ∙ c.if-not-contains.false)

pub returns : goal.returns
returns g c = (omega arith, follow_all _ _ _ (omega arith) c.requires.1 c.loop-k.k c.loop-k.invariant _ (omega arith) (omega arith) (omega arith))
