use Rattle.std.proofs.Common.{rules, ◌≡◌, Err}
use Rattle.read.proofs.StepLaws.{field_stop, field_read}
use Rattle.read.proofs.field_at.Goals as goal

pub returns-in_err-field : goal.returns-in_err-field
returns-in_err-field c =
    let e : c.from_residual.result ≡ Err c.in_err-field.field-0.0 = search rules in
    rw e (field_stop _ c.args.at _ _ _ _ _ c.meet_of-met.ensures _ c.placed.ensures _ c.in_err-field.was)

pub returns : goal.returns
returns c = field_read _ c.args.at _ _ _ _ _ c.meet_of-met.ensures _ c.placed.ensures _ c.in_ok-field.was _ c.of.ensures
