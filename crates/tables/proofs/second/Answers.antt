use borrow.Author.Rules.{rules}
use Rattle.tables.proofs.SecondReturns.{second_is, smallest_few}
use Rattle.tables.proofs.second.Goals as goal

pub overflow_add-first : goal.overflow_add-first
overflow_add-first c = search (smallest_few _ _ _ c.smallest-first.ensures, rules)

pub returns : goal.returns
returns c = search (second_is, rules)
