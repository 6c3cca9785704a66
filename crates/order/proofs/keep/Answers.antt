use borrow.Author.Rules.{rules}
use Rattle.order.proofs.KeepReturns.{keep_starts, keep_on}
use Rattle.order.proofs.keep.Goals as goal

pub loop-i-init : goal.loop-i-init
loop-i-init c = search (keep_starts, rules)

pub loop-i-preserved : goal.loop-i-preserved
loop-i-preserved c = search (keep_on, rules)
