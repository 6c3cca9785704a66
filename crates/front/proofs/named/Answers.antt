use Rattle.front.proofs.FrontReturns.{named_read}
use Rattle.front.proofs.named.Goals as goal

pub returns : goal.returns
returns c = named_read _ _ _ _ _ _ c.text_of.ensures _ _ c.in_ok-name.was c.note.ensures
