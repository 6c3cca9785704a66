use Rattle.std.proofs.Common.{rules, ◌≡◌, Err}
use Rattle.write.proofs.Top.{w_refused, w_room, w_ready, w_done}
use Rattle.write.proofs.write.Goals as goal

ruleset laws = (w_ready, rules)

pub returns-in_err-top : goal.returns-in_err-top
returns-in_err-top c =
    let e : c.from_residual.result ≡ Err c.in_err-top.field-0.0 = search rules in
    rw e (w_refused _ _ _ _ _ c.measure.ensures _ c.in_err-top.was)

pub bounds-out-0 : goal.bounds-out-0
bounds-out-0 c = w_room _ _ _ _ _ c.measure.ensures _ c.in_ok-top.was

pub put_field-requires : goal.put_field-requires
put_field-requires c = search laws

pub returns : goal.returns
returns c = w_done _ _ _ _ _ c.measure.ensures _ c.in_ok-top.was c.type_inv.list _ _ _ c.put_field.ensures
