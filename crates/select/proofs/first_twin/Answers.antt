use borrow.Author.Rules.{rules}
use Rattle.select.proofs.FillReturns.{filled_front, passed, divided_done}
use Rattle.select.proofs.first_twin.Goals as goal

ruleset laws = (filled_front, passed, divided_done, rules)

pub returns-in-None : goal.returns-in-None
returns-in-None c = search laws

pub returns-in-Some : goal.returns-in-Some
returns-in-Some c = search laws
