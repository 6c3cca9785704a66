use Rattle.printing.proofs.TextLaws.{put_none, put_room}
use Rattle.printing.proofs.put_refused.Goals as goal

pub returns-then-text-lt35 : goal.returns-then-text-lt35
returns-then-text-lt35 c = put_none _ _ _ c.if-text-lt35.true

pub returns : goal.returns
returns c = put_room _ _ _ c.if-text-lt35.false _ c.refused_in.ensures
