use borrow.Author.Rules.{rules}
use Rattle.std.proofs.Common.{ℕ, ap, ◌∙◌}
use Rattle.divide.specs.Passes.{digit_in}
use Rattle.divide.proofs.RangeReturns.{range_starts, range_on}
use Rattle.divide.proofs.DigitLaws.{reach_at, behind_first, behind_within}
use Rattle.divide.proofs.range_of.Goals as goal

pub digit-low-requires : goal.digit-low-requires
digit-low-requires c = reach_at _ _ _ c.requires.1 _ (search rules)

pub loop-x-init : goal.loop-x-init
loop-x-init c = range_starts _ _ _ c.requires.0 _ c.digit-low.ensures

pub digit-d-requires : goal.digit-d-requires
digit-d-requires c =
    rw (behind_first c.args.table.now c.loop-x.x-index)
    (reach_at _ _ _ c.requires.1 _ (behind_within _ _ c.loop-x-test.true))

pub loop-x-preserved : goal.loop-x-preserved
loop-x-preserved c =
    range_on _ _ _ _ _ _ c.loop-x.invariant
    (behind_within _ _ c.loop-x-test.true) _ _ _ (c.digit-d.ensures ∙ ap (λ (x : ℕ). digit_in c.args.part.now c.args.at x)
    (behind_first c.args.table.now c.loop-x.x-index)) c.min-low.ensures c.max-high.ensures
