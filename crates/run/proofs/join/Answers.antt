use borrow.Author.Rules.{rules}
use Rattle.run.proofs.JoinReturns.{join_first, join_same, join_mixed}
use Rattle.run.proofs.join.Goals as goal

ruleset laws = (join_first, join_same, join_mixed, rules)

pub returns-then-shared-eq-NONE : goal.returns-then-shared-eq-NONE
returns-then-shared-eq-NONE c = search laws

pub returns-then-shared-id : goal.returns-then-shared-id
returns-then-shared-id c = search laws

pub returns-else-shared-id : goal.returns-else-shared-id
returns-else-shared-id c = search laws
