use borrow.Author.Rules.{rules}
use Rattle.compare.proofs.OrderLaws.{order_apart, order_level}
use Rattle.compare.proofs.compare.Goals as goal

ruleset laws = (order_apart, order_level, rules)

pub returns-then-a-b : goal.returns-then-a-b
returns-then-a-b c = search laws

pub returns : goal.returns
returns c = search laws
