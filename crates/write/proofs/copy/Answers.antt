use borrow.Author.Rules.{rules}
use Rattle.output.proofs.CopyReturns.{copied_is}
use Rattle.write.proofs.copy.Goals as goal

pub returns : goal.returns
returns c = search (copied_is, rules)
