-- `number::front` meets its contract. Assumes nothing.
use Rattle.number.proofs.VarUIntLaws.{masked}
use Rattle.number.proofs.front.Goals as goal

pub returns : goal.returns
returns c = rw (c.from.ensures, c.requires) (masked c.args.first c.ranges.first.fits)
