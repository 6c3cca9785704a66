use Rattle.sending.proofs.SentLaws.{sent_none, sent_is, sent_refused}
use Rattle.sending.proofs.send.Goals as goal

pub returns-then-answer-lt1 : goal.returns-then-answer-lt1
returns-then-answer-lt1 c = sent_none c.args.list.now _ _ _ c.if-answer-lt1.true _ c.clear.ensures

pub returns-in-Ok : goal.returns-in-Ok
returns-in-Ok c = sent_is c.args.list.now _ _ c.args.answer.now c.if-answer-lt1.false _ _ _ c.write.ensures _ c.in-Ok.is

pub returns-in-Err : goal.returns-in-Err
returns-in-Err c =
    sent_refused c.args.list.now _ _ c.args.answer.now c.if-answer-lt1.false _ _ _ c.write.ensures _ c.in-Err.is _ c.refusal_number.ensures
