use Rattle.std.proofs.Common.{rules, Err, ◌≡◌, ◌∙◌}
use native.Mathlib.Omega.{arith}
use Rattle.read.proofs.LookLaws.{look_fault, look_found, met_along}
use Rattle.read.proofs.look.Goals as goal

pub returns-in_err-field : goal.returns-in_err-field
returns-in_err-field c =
    let told = look_fault _ _ _ _ _ _ c.loop-field.invariant _ c.step_in.ensures _ c.in_err-field.was in
    let here : c.from_residual.result ≡ Err c.in_err-field.field-0.0 = search rules in
    here ∙ told

pub slice_bounds-are_equal-end : goal.slice_bounds-are_equal-end
slice_bounds-are_equal-end c =
    let stands = met_along _ _ _ _ _ c.loop-field.at c.loop-field.invariant _ c.step_in.ensures _ c.in_ok-field.was _ c.in-Some.is c.requires.1 in
    omega (arith, c.requires.1)

pub returns-then-found : goal.returns-then-found
returns-then-found c =
    look_found _ _ _ _ _ _ c.loop-field.invariant _ c.step_in.ensures _ c.in_ok-field.was _ c.in-Some.is _
    c.are_equal-found.ensures c.if-found.true

pub loop-field-smaller : goal.loop-field-smaller
loop-field-smaller c =
    let stands = met_along _ _ _ _ _ c.loop-field.at c.loop-field.invariant _ c.step_in.ensures _ c.in_ok-field.was _ c.in-Some.is c.requires.1 in
    omega (arith, stands.onward c.requires.3, stands.within)
