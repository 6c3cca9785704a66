use Rattle.std.proofs.Common.{◌≡◌, Err, rules, arith}
use mathlib.Core.Path.{◌∙◌}
use Rattle.frame.proofs.PositionReturns.{leaf_refused_at, leaf_shift, leaf_inside}
use Rattle.frame.proofs.leaf_at.Goals as goal

pub returns-in_err-leaf : goal.returns-in_err-leaf
returns-in_err-leaf c =
    let z : c.from_residual.result ≡ Err c.in_err-leaf.field-0.0 = search rules in
    z ∙ leaf_refused_at c.args.list.now _ c.inside-from.ensures.0 _ _ c.leaf_of.ensures _ c.in_err-leaf.was _ c.inside-from.ensures.1

pub overflow_add-result : goal.overflow_add-result
overflow_add-result c = omega (arith, leaf_inside c.args.list.now _ c.inside-from.ensures.0 _ _ c.leaf_of.ensures _ c.in_ok-leaf.was)

pub returns : goal.returns
returns c = leaf_shift c.args.list.now _ c.inside-from.ensures.0 _ _ c.leaf_of.ensures _ c.in_ok-leaf.was _ c.inside-from.ensures.1
