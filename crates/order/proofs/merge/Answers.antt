use borrow.Author.Rules.{rules}
use Rattle.order.proofs.MergeReturns.{merge_starts, merge_right, merge_left, merge_ends}
use Rattle.order.proofs.merge.Goals as goal

pub loop-i-init : goal.loop-i-init
loop-i-init c = search (merge_starts, rules)

pub loop-i-preserved-then-is_second : goal.loop-i-preserved-then-is_second
loop-i-preserved-then-is_second c = search (merge_right, rules)

pub loop-i-preserved : goal.loop-i-preserved
loop-i-preserved c = search (merge_left, rules)

pub returns : goal.returns
returns c = search (merge_ends, rules)
