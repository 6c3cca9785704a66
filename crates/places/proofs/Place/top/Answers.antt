use Rattle.std.proofs.Common.{rules, ◌≡◌, Err}
use Rattle.places.proofs.TopCases.{top_at, top_stop}
use Rattle.places.proofs.Place.top.Goals as goal

pub returns-in_err-field : goal.returns-in_err-field
returns-in_err-field c =
    let e : c.from_residual.result ≡ Err c.in_err-field.field-0.0 = search rules in
    rw e (top_stop _ _ _ c.if-payload-gt-LENGTH.false _ c.meet_of-met.ensures _ c.placed.ensures _ c.in_err-field.was)

pub returns : goal.returns
returns c = top_at _ _ _ c.if-payload-gt-LENGTH.false _ c.meet_of-met.ensures _ c.placed.ensures _ c.in_ok-field.was
