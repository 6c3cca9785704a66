use borrow.Author.Rules.{rules}
use Rattle.pairs.proofs.PairReturns.{pair_starts, pair_on, pair_ends}
use Rattle.pairs.proofs.first_twin.Goals as goal

ruleset laws = (pair_starts, pair_on, pair_ends, rules)

pub loop-i-init : goal.loop-i-init
loop-i-init c = search laws

pub loop-i-preserved : goal.loop-i-preserved
loop-i-preserved c = search laws

pub returns : goal.returns
returns c = search laws
