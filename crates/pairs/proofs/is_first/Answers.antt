use borrow.Author.Rules.{rules}
use Rattle.pairs.proofs.PairReturns.{first_by, first_later}
use Rattle.pairs.proofs.is_first.Goals as goal

ruleset laws = (first_by, first_later, rules)

pub returns-then-begin_of : goal.returns-then-begin_of
returns-then-begin_of c = search laws

pub returns-else-begin_of : goal.returns-else-begin_of
returns-else-begin_of c = search laws
