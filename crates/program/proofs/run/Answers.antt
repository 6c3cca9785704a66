use native.Mathlib.Omega.{arith}
use Rattle.answers.proofs.WholeInput.{answer_inside}
use Rattle.program.proofs.InParts.{heard, ran_is}
use Rattle.program.proofs.run.Goals as goal

pub print-requires : goal.print-requires
print-requires c = answer_inside _ _ _ _ _ _ c.answer-printed.ensures

pub returns : goal.returns
returns c =
    ran_is _ _ _ (heard _ _ _ c.read_all.ensures _ c.in-Some.is) (omega arith) _ _ _ _ c.answer-printed.ensures _ c.print.ensures
