use Rattle.std.proofs.Common.{rules}
use mathlib.Core.Path.{refl}
use Rattle.container.proofs.Clearing.{all_zero}
use Rattle.measure.proofs.Settling.{settled_long, settled_short}
use Rattle.measure.proofs.measure.Goals as goal

pub returns-then-list-gt-LENGTH : goal.returns-then-list-gt-LENGTH
returns-then-list-gt-LENGTH c = rw c.at.ensures (settled_long _ _ _ _ (search rules) (all_zero _ _ c.clear.ensures))

pub returns-then-list-le-SHORT : goal.returns-then-list-le-SHORT
returns-then-list-le-SHORT c = settled_short _ _ _ _ _ 32 refl (search rules) c.measure_within.ensures

pub returns : goal.returns
returns c = settled_short _ _ _ _ _ 32 refl (search rules) c.measure_within-2.ensures
