-- `text::ascii_run` meets its contract: what its three parts pass is passed one after the other.
use native.Mathlib.Omega.{arith}
use mathlib.Core.Path.{refl}
use Rattle.text.proofs.Steps.{passed_on}
use Rattle.text.proofs.ascii_run.Goals as goal

pub ascii_bytes-requires-2 : goal.ascii_bytes-requires-2
ascii_bytes-requires-2 c = (omega (arith, c.ascii_far-far.ensures.1.fits refl), omega arith)

pub returns : goal.returns
returns c = (
  omega arith,
  passed_on _ _ _ _ _ _ c.ascii_bytes-near.ensures.2
      (passed_on _ _ _ _ _ _ c.ascii_far-far.ensures.1 c.ascii_bytes-2.ensures.2),
)
