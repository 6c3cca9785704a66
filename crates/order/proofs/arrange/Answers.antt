use native.Mathlib.Omega.{arith}
use mathlib.Core.Path.{sym}
use Rattle.order.proofs.ArrangeReturns.{arrange_refused, lent_length, arrange_lent}
use Rattle.order.proofs.arrange.Goals as goal

pub returns-then-table-n : goal.returns-then-table-n
returns-then-table-n c = arrange_refused _ _ _ (omega arith)

pub slice_bounds-settle-end-2 : goal.slice_bounds-settle-end-2
slice_bounds-settle-end-2 c = sym (lent_length c.args.table.now c.args.n (omega arith))

pub settle-requires : goal.settle-requires
settle-requires c = lent_length c.args.table.now c.args.n (omega arith)

pub returns : goal.returns
returns c = arrange_lent _ _ _ (omega arith) _ _ c.settle.ensures
