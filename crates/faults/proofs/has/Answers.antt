use borrow.Author.Rules.{rules}
use Rattle.faults.proofs.NotedLaws.{has_some, has_is}
use Rattle.faults.proofs.has.Goals as goal

ruleset laws = (has_some, has_is, rules)

pub nonzero_div-result : goal.nonzero_div-result
nonzero_div-result c = search laws

pub returns : goal.returns
returns c = search laws
