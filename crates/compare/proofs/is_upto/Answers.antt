use borrow.Author.Rules.{rules}
use Rattle.compare.specs.Order.{upto}
use Rattle.compare.proofs.is_upto.Goals as goal

pub returns : goal.returns
unfolding upto
returns c = search rules
