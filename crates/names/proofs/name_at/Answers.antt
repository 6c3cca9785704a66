-- What was met behind a position, moved there. Nothing passes the part, so the sums fit.
use Rattle.std.proofs.Common.{arith}
use Rattle.names.proofs.NameFound.{name_at_past, name_unmet, name_unnamed, name_at_some, name_at_inside}
use Rattle.names.proofs.name_at.Goals as goal

pub returns-then-part-at : goal.returns-then-part-at
returns-then-part-at c = name_at_past _ _ _ (omega arith)

pub returns-in_err-met : goal.returns-in_err-met
returns-in_err-met c = name_unmet _ _ _ _ _ _ c.meet_of.ensures _ c.ok.ensures.value _ c.in_err-met.was c.from_residual.ensures

pub returns-in_err-name : goal.returns-in_err-name
returns-in_err-name c =
    name_unnamed _ _ _ _ _ _ c.meet_of.ensures _ c.ok.ensures.value _ c.in_ok-met.was _ c.name_of.ensures _ c.in_err-name.was
    c.from_residual-in_err-name.ensures

pub overflow_add-result : goal.overflow_add-result
overflow_add-result c =
    omega (
      arith,
      name_at_inside _ _ _ c.args.part.now _ _ c.meet_of.ensures _ c.ok.ensures.value _ c.in_ok-met.was _ c.name_of.ensures _ c.in_ok-name.was (omega arith),
    )

pub overflow_add-result-2 : goal.overflow_add-result-2
overflow_add-result-2 c =
    omega (
      arith,
      name_at_inside _ _ _ c.args.part.now _ _ c.meet_of.ensures _ c.ok.ensures.value _ c.in_ok-met.was _ c.name_of.ensures _ c.in_ok-name.was (omega arith),
    )

pub overflow_add-result-3 : goal.overflow_add-result-3
overflow_add-result-3 c =
    omega (
      arith,
      name_at_inside _ _ _ c.args.part.now _ _ c.meet_of.ensures _ c.ok.ensures.value _ c.in_ok-met.was _ c.name_of.ensures _ c.in_ok-name.was (omega arith),
    )

pub returns : goal.returns
returns c = name_at_some _ _ _ _ _ _ c.meet_of.ensures _ c.ok.ensures.value _ c.in_ok-met.was _ c.name_of.ensures _ c.in_ok-name.was
