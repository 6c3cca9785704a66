use borrow.Author.Rules.{rules}
use Rattle.pairs.proofs.PairReturns.{past_starts, past_on, past_ends}
use Rattle.pairs.proofs.past.Goals as goal

ruleset laws = (past_starts, past_on, past_ends, rules)

pub loop-x-init : goal.loop-x-init
loop-x-init c = search laws

pub loop-x-preserved : goal.loop-x-preserved
loop-x-preserved c = search laws

pub returns : goal.returns
returns c = search laws
