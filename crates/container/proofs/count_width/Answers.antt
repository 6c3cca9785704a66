use borrow.Author.Rules.{rules}
use Rattle.container.proofs.Returns.{count_none, count_some, count_most}
use Rattle.container.proofs.count_width.Goals as goal

ruleset laws = (count_none, count_some, count_most, rules)

pub returns-then-named : goal.returns-then-named
returns-then-named c = search laws

pub returns-else-named : goal.returns-else-named
returns-else-named c = search laws
