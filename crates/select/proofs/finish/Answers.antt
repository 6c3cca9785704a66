use borrow.Author.Rules.{rules}
use Rattle.select.proofs.CutReturns.{end_never, ended}
use Rattle.select.proofs.finish.Goals as goal

ruleset laws = (end_never, ended, rules)

pub returns-in_default : goal.returns-in_default
returns-in_default c = search laws

pub returns : goal.returns
returns c = search laws
