use native.Mathlib.Omega.{arith}
use Rattle.order.proofs.JoinReturns.{join_early, join_merged, copied}
use Rattle.order.proofs.join.Goals as goal

pub returns-then-is_upto : goal.returns-then-is_upto
returns-then-is_upto c =
    join_early _ _ _ _ _ c.requires.2 _ _
    c.is_upto.ensures c.if-is_upto.true (omega arith) (omega arith)

pub returns : goal.returns
returns c =
    join_merged _ _ _ _ _ c.requires.2 (omega arith) _ _
    (copied _ _ _ _ _ _ c.requires.2 (omega arith) (omega arith) c.copy_within.ensures.len c.copy_within.ensures.after) c.merge.ensures
