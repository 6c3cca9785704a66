use borrow.Author.Rules.{rules}
use Rattle.select.proofs.FillReturns.{fill_starts, fill_ends, fill_stops, fill_less, fill_more, fill_on}
use Rattle.select.proofs.fill.Goals as goal

ruleset laws = (fill_starts, fill_ends, fill_stops, fill_less, fill_more, fill_on, rules)

pub loop-at-init : goal.loop-at-init
loop-at-init c = search laws

pub returns-then-table-n : goal.returns-then-table-n
returns-then-table-n c = search laws

pub loop-at-smaller : goal.loop-at-smaller
loop-at-smaller c = search laws

pub loop-at-preserved : goal.loop-at-preserved
loop-at-preserved c = search laws

pub returns-in_default : goal.returns-in_default
returns-in_default c = search laws

pub returns-after-loop-at : goal.returns-after-loop-at
returns-after-loop-at c = search laws
