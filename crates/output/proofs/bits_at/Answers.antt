use Rattle.output.proofs.EncodedReturns.{bits_is}
use Rattle.output.proofs.bits_at.Goals as goal

pub returns : goal.returns
returns c = bits_is _ _ _ _ c.get.ensures.lookup c.map_or.ensures
