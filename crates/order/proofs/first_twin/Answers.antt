use borrow.Author.Rules.{rules}
use native.Mathlib.Omega.{arith}
use mathlib.Core.Path.{◌∙◌}
use Rattle.order.proofs.TwinReturns.{walk_starts, walk_on, walk_ends}
use Rattle.order.proofs.first_twin.Goals as goal

ruleset laws = (walk_starts, rules)

pub loop-pair-init : goal.loop-pair-init
loop-pair-init c = search laws

pub loop-pair-preserved : goal.loop-pair-preserved
loop-pair-preserved c =
    let size = c.loop-pair.invariant.0 in
    let h = rw c.in-Some.is at c.next.ensures.steps.1 in (
      c.next.ensures.steps.0 ∙ size,
      walk_on _ _ _ _ _ c.loop-pair.invariant.1 c.requires _ _ _ (omega (arith, h.0, size)) (rw size at h.1) h.2 c.next_least-least.ensures,
    )

pub returns : goal.returns
returns c =
    let h = rw c.in-None.is at c.next.ensures.steps.1 in
    walk_ends _ _ _ _ _ c.loop-pair.invariant.1 c.requires (omega (arith, h.0, c.loop-pair.invariant.0))
