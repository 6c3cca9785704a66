use borrow.Author.Rules.{rules}
use Rattle.divide.proofs.SplitReturns.{counted_is}
use Rattle.divide.proofs.counted.Goals as goal

pub returns : goal.returns
returns c = search (counted_is, rules)
