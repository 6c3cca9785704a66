use native.Mathlib.Omega.{arith}
use Rattle.answers.proofs.WholeInput.{whole_list, whole_is, whole_text}
use Rattle.answers.proofs.whole.Goals as goal

pub returns : goal.returns
returns c = record {
  text_after = whole_text c.args.input.now c.args.list.now _ _ _ c.nothing.ensures c.feed-typing.ensures (omega arith) (omega arith) _ _ _ _ c.answer.ensures;
  numbers_after = whole_is c.args.input.now c.args.list.now _ _ _ c.nothing.ensures c.feed-typing.ensures (omega arith) (omega arith) _ _ _ _ c.answer.ensures;
  list_after = whole_list c.args.input.now c.args.list.now _ _ _ c.nothing.ensures c.feed-typing.ensures;
}
