use borrow.Author.Rules.{rules}
use Rattle.pairs.proofs.PairReturns.{with_apart, with_first, with_second, with_none}
use Rattle.pairs.proofs.with.Goals as goal

ruleset laws = (with_apart, with_first, with_second, with_none, rules)

pub returns-then-x-y : goal.returns-then-x-y
returns-then-x-y c = search laws

pub returns-then-is_first : goal.returns-then-is_first
returns-then-is_first c = search laws

pub returns-then-is_first-2 : goal.returns-then-is_first-2
returns-then-is_first-2 c = search laws

pub returns : goal.returns
returns c = search laws
