use borrow.Author.Rules.{rules}
use Rattle.write.proofs.AgainReturns.{end_is, end_fits}
use Rattle.write.proofs.end_at.Goals as goal

ruleset laws = (end_is, end_fits, rules)

pub slice_bounds-leaf_end-count : goal.slice_bounds-leaf_end-count
slice_bounds-leaf_end-count c = search laws

pub slice_bounds-leaf_end-start : goal.slice_bounds-leaf_end-start
slice_bounds-leaf_end-start c = search laws

pub slice_bounds-leaf_end-end : goal.slice_bounds-leaf_end-end
slice_bounds-leaf_end-end c = search laws

pub leaf_end-requires : goal.leaf_end-requires
leaf_end-requires c = search laws

pub overflow_add-result : goal.overflow_add-result
overflow_add-result c = search laws

pub returns : goal.returns
returns c = search laws
