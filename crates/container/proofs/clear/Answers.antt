use borrow.Author.Rules.{rules}
use Rattle.container.proofs.Clearing.{cleared_is}
use Rattle.container.proofs.clear.Goals as goal

pub returns : goal.returns
returns c = search (cleared_is, rules)
