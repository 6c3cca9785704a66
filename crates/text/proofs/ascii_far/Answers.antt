-- `text::ascii_far` meets its contract: what its two parts pass is passed one after the other.
use native.Mathlib.Omega.{arith}
use mathlib.Core.Path.{refl}
use Rattle.text.proofs.Steps.{passed_on}
use Rattle.text.proofs.ascii_far.Goals as goal

pub ascii_blocks-requires : goal.ascii_blocks-requires
ascii_blocks-requires c = (omega (arith, c.ascii_blocks-near.ensures.1.fits refl), omega arith)

pub returns : goal.returns
returns c = (omega arith, passed_on _ _ _ _ _ _ c.ascii_blocks-near.ensures.1 c.ascii_blocks.ensures.1)
