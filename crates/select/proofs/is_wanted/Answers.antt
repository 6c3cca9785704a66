use borrow.Author.Rules.{rules}
use Rattle.select.proofs.RangeReturns.{wanted_late, wanted_over, wanted_under}
use Rattle.select.proofs.is_wanted.Goals as goal
use Rattle.select.proofs.is_wanted.Goals.{then-begin_of-stop, else-begin_of-stop}

ruleset laws = (wanted_late, wanted_over, wanted_under, rules)

pub returns-then-is_above : goal.returns-then-is_above
returns-then-is_above c = elim c.if-begin_of-stop.branch [ then-begin_of-stop w ↦ search laws | else-begin_of-stop w ↦ search laws ]

pub returns-else-is_above : goal.returns-else-is_above
returns-else-is_above c = elim c.if-begin_of-stop.branch [ then-begin_of-stop w ↦ search laws | else-begin_of-stop w ↦ search laws ]
