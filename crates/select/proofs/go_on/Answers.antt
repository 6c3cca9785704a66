use borrow.Author.Rules.{rules}
use Rattle.select.proofs.FrontReturns.{front_cleared, front_unfit, front_found, front_passed}
use Rattle.select.proofs.go_on.Goals as goal

ruleset laws = (front_cleared, front_unfit, front_found, front_passed, rules)

pub returns-in-None : goal.returns-in-None
returns-in-None c = search laws

pub returns-in-Some : goal.returns-in-Some
returns-in-Some c = search laws
