use borrow.Author.Rules.{rules}
use Rattle.select.proofs.SearchReturns.{gather_starts, gather_few, gather_ends, gather_stops, gather_on, gather_less}
use Rattle.select.proofs.gather.Goals as goal
use Rattle.select.proofs.gather.Goals.{else-loop-at-test, then-loop-at-test+in_default}

ruleset laws = (gather_starts, gather_few, gather_ends, gather_stops, gather_on, gather_less, rules)

pub loop-at-init : goal.loop-at-init
loop-at-init c = search laws

pub loop-at-smaller : goal.loop-at-smaller
loop-at-smaller c = search laws

pub loop-at-preserved : goal.loop-at-preserved
loop-at-preserved c = search laws

pub returns : goal.returns
returns c = elim c.loop-at-test.branch [ else-loop-at-test w ↦ search laws | then-loop-at-test+in_default w ↦ search laws ]
