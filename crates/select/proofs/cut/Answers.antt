use borrow.Author.Rules.{rules}
use Rattle.select.proofs.CutReturns.{cut_never, cut_all, cut_lower}
use Rattle.select.proofs.cut.Goals as goal

ruleset laws = (cut_never, cut_all, cut_lower, rules)

pub returns-in_default : goal.returns-in_default
returns-in_default c = search laws

pub returns-then-half-arranged : goal.returns-then-half-arranged
returns-then-half-arranged c = search laws

pub returns : goal.returns
returns c = search laws
