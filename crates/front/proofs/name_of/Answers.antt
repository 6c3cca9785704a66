use mathlib.Core.Path.{refl}
use Rattle.front.proofs.FrontReturns.{front_shared}
use Rattle.front.proofs.name_of.Goals as goal

pub returns : goal.returns
returns c = front_shared _ _ _ _ _ _ refl c.named.ensures
