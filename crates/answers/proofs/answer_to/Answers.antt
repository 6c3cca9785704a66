use Rattle.answers.proofs.AnswerLaws.{done_inside, done_length, answer_done, answer_refused}
use Rattle.answers.proofs.answer_to.Goals as goal

pub slice_bounds-put_encoding-end : goal.slice_bounds-put_encoding-end
slice_bounds-put_encoding-end c =
    done_inside c.args.list.now _ _
    c.args.text.now
    c.requires.0
    c.requires.1
    c.requires.2 _ _ _
    c.write.ensures _ c.in-Ok.is

pub slice_bounds-put_encoding-end-in-Ok : goal.slice_bounds-put_encoding-end-in-Ok
slice_bounds-put_encoding-end-in-Ok c =
    done_length
    c.args.list.now _ _
    c.args.text.now
    c.requires.0
    c.requires.1
    c.requires.2 _ _ _
    c.write.ensures _ c.in-Ok.is

pub returns-in-Ok : goal.returns-in-Ok
returns-in-Ok c =
    answer_done
    c.args.list.now _ _
    c.args.text.now
    c.requires.0
    c.requires.1
    c.requires.2 _ _ _ c.write.ensures _
    c.in-Ok.is
    c.write.auto.out _ _
    c.put_encoding.ensures

pub returns-in-Err : goal.returns-in-Err
returns-in-Err c =
    answer_refused
    c.args.list.now _ _
    c.args.text.now
    c.requires.0
    c.requires.1
    c.requires.2 _ _ _ c.write.ensures _
    c.in-Err.is _ c.refusal_number-number.ensures _ _
    c.put_refused.ensures
