use Rattle.std.proofs.Common.{◌≡◌, Some, Err, rules, arith}
use mathlib.Core.Path.{◌∙◌}
use Rattle.frame.proofs.FrontReturns.{front_refused}
use Rattle.frame.proofs.front_at.Goals as goal

pub returns-in_err-name : goal.returns-in_err-name
returns-in_err-name c =
    let z : c.from_residual-in_err-name.result ≡ Err c.in_err-name.field-0.0 = search rules in
    let k : c.kind_of.result ≡ Some c.in_ok-kind.kind = search rules in
    z ∙ front_refused _ _ _ _ c.if-left-eq0.false (omega arith) _ c.kind_of.ensures _ k c.if-named.true _ c.name_at.ensures _ c.in_err-name.was
