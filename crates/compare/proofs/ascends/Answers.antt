use borrow.Author.Rules.{rules}
use Rattle.compare.specs.Order.{order, ascends}
use Rattle.compare.proofs.ascends.Goals as goal

pub returns : goal.returns
unfolding order ascends
returns c = search rules
