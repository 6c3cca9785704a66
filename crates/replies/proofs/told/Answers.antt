use Rattle.replies.proofs.ReplyLaws.{values_told}
use Rattle.replies.proofs.told.Goals as goal

pub returns-in-Ok : goal.returns-in-Ok
returns-in-Ok g c =
    values_told _ _ _ _ _ c.if-held.false c.in-Ok.is c.copy_from_slice.ensures.after
    c.copy_from_slice.ensures.len
