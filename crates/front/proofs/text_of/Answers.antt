use Rattle.front.proofs.FrontReturns.{text_looked}
use Rattle.front.proofs.text_of.Goals as goal

pub returns-then-format : goal.returns-then-format
returns-then-format c = text_looked _ _ _ _ c.span_of.ensures _ c.in_ok-span.was _ _ c.is_text-good.ensures c.note.ensures
