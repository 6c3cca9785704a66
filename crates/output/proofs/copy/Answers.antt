use borrow.Author.Rules.{rules}
use native.Mathlib.Omega.{arith}
use Rattle.output.proofs.CopyReturns.{put_more, copy_past, copy_few, copy_done}
use Rattle.output.proofs.copy.Goals as goal
use Rattle.output.proofs.copy.Goals.{else-to-out-via-then-to-out+else-bytes-out, else-to-out-via-else-to-out}

pub loop-i-preserved : goal.loop-i-preserved
loop-i-preserved c = (search rules, put_more _ _ _ _ _ c.loop-i-test.true c.loop-i.invariant.1)

pub returns-after-loop-i : goal.returns-after-loop-i
returns-after-loop-i c =
    let part = c.in-Some.ensures.lookup.0 in
    copy_done _ _ _ _ _ part.0 part.1 _ _ _ part.2 part.3 (omega arith) (omega arith) c.loop-i.invariant.1

pub returns-else-to-out : goal.returns-else-to-out
returns-else-to-out c =
    let part = c.in-Some.ensures.lookup.0 in
    elim c.else-to-out.branch [
      | else-to-out-via-then-to-out+else-bytes-out w ↦ copy_few _ _ _ _ _ part.0 part.1 (omega (arith, part.3))
      | else-to-out-via-else-to-out w ↦ copy_few _ _ _ _ _ part.0 part.1 (omega arith)
    ]

pub returns-in_default : goal.returns-in_default
returns-in_default c = copy_past _ _ _ _ _ c.in_default.ensures.lookup.0
