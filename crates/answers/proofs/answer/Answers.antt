use native.Mathlib.Omega.{arith}
use Rattle.answers.proofs.AnswerLaws.{answer_mistyped, held_length, answer_typed}
use Rattle.answers.proofs.answer.Goals as goal

pub returns-then-is_some-typing : goal.returns-then-is_some-typing
returns-then-is_some-typing c =
    answer_mistyped c.args.typing
    c.args.list.now _ _ _ (omega arith) (rw c.is_some.ensures at c.if-is_some-typing.true) _ _ _
    c.clear.ensures c.put_refused.ensures

pub slice_bounds-answer_to-end : goal.slice_bounds-answer_to-end
slice_bounds-answer_to-end c =
    held_length c.args.typing c.args.list.now
    c.args.text.now c.args.out.now
    c.args.numbers.now _ c.held-end.ensures

pub returns : goal.returns
returns c =
    answer_typed c.args.typing
    c.args.list.now _ _ _
    (rw c.is_some.ensures at c.if-is_some-typing.false) _ c.held-end.ensures _
    c.answer_to.ensures
