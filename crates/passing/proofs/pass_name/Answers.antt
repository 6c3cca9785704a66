use Rattle.std.proofs.Common.{arith}
use Rattle.passing.proofs.PartReturns.{name_fits, name_ends}
use Rattle.passing.proofs.pass_name.Goals as goal

pub overflow_add-result : goal.overflow_add-result
overflow_add-result c =
    omega (arith, name_fits _ c.args.part.now _ c.requires c.if-not-named.false _ _ _ _ c.name_of.ensures _ c.ok.ensures.value _ c.in_ok-name.was)

pub returns : goal.returns
returns c = name_ends _ c.args.part.now _ c.requires c.if-not-named.false _ _ _ _ c.name_of.ensures _ c.ok.ensures.value _ c.in_ok-name.was
