use Rattle.std.proofs.Common.{◌≡◌, Err, rules, arith}
use mathlib.Core.Path.{◌∙◌}
use Rattle.frame.proofs.PositionReturns.{name_refused, name_shift, name_inside}
use Rattle.frame.proofs.name_at.Goals as goal

pub returns-in_err-name : goal.returns-in_err-name
returns-in_err-name c =
    let z : c.from_residual.result ≡ Err c.in_err-name.field-0.0 = search rules in
    z ∙ name_refused c.args.list.now _ c.inside-from.ensures.0 _ c.name_of.ensures _ c.in_err-name.was _ c.inside-from.ensures.1

pub overflow_add-result : goal.overflow_add-result
overflow_add-result c = omega (arith, name_inside c.args.list.now _ c.inside-from.ensures.0 _ c.name_of.ensures _ c.in_ok-name.was)

pub overflow_add-result-2 : goal.overflow_add-result-2
overflow_add-result-2 c = omega (arith, name_inside c.args.list.now _ c.inside-from.ensures.0 _ c.name_of.ensures _ c.in_ok-name.was)

pub returns : goal.returns
returns c = name_shift c.args.list.now _ c.inside-from.ensures.0 _ c.name_of.ensures _ c.in_ok-name.was _ c.inside-from.ensures.1
