use Rattle.std.proofs.Common.{arith}
use Rattle.passing.proofs.PartReturns.{leaf_other, leaf_fits, leaf_ends}
use Rattle.passing.proofs.pass_leaf.Goals as goal

pub returns-in_default : goal.returns-in_default
returns-in_default c =
    leaf_other _ c.args.part.now _ c.requires _ _ _ c.head_of.ensures _ c.ok.ensures.value _ c.in_ok-heading.was c.in_default.not-Leaf

pub overflow_add-result : goal.overflow_add-result
overflow_add-result c =
    omega (arith, leaf_fits _ c.args.part.now _ c.requires _ _ _ c.head_of.ensures _ c.ok.ensures.value _ c.in_ok-heading.was _ _ c.in-Leaf.is)

pub returns : goal.returns
returns c = leaf_ends _ c.args.part.now _ c.requires _ _ _ c.head_of.ensures _ c.ok.ensures.value _ c.in_ok-heading.was _ _ c.in-Leaf.is
