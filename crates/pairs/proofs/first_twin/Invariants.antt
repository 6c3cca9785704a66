use Rattle.std.proofs.Common.{◌≡◌, take}
use Rattle.entries.specs.Least.{least}
use Rattle.pairs.proofs.first_twin.Given as goal

abbrev pub invariant-loop-i : goal.invariant-loop-i
invariant-loop-i l = l.least ≡ least l.part (take l.i l.all)
