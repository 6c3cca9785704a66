-- The kind, then the name behind it, then the payload behind that; nothing passes the part, so the sums fit.
use Rattle.std.proofs.Common.{arith}
use Rattle.passing.proofs.NameReturns.{read_inside}
use Rattle.passing.proofs.name_at.Goals as goal

pub overflow_add-end : goal.overflow_add-end
overflow_add-end c = omega (arith, read_inside _ _ c.args.part.now c.if-left-eq0.false (omega arith) _ c.kind_of.ensures _ c.in_ok-kind.was _ _ _ c.name_of.ensures _ c.ok.ensures.value _ c.in_ok-name.was)

pub pass_payload-behind-requires : goal.pass_payload-behind-requires
pass_payload-behind-requires c = (read_inside _ _ c.args.part.now c.if-left-eq0.false (omega arith) _ c.kind_of.ensures _ c.in_ok-kind.was _ _ _ c.name_of.ensures _ c.ok.ensures.value _ c.in_ok-name.was).1

pub overflow_add-result : goal.overflow_add-result
overflow_add-result c = omega (arith, read_inside _ _ c.args.part.now c.if-left-eq0.false (omega arith) _ c.kind_of.ensures _ c.in_ok-kind.was _ _ _ c.name_of.ensures _ c.ok.ensures.value _ c.in_ok-name.was)
