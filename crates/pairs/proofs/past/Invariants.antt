use Rattle.std.proofs.Common.{◌≡◌, take}
use Rattle.pairs.specs.Code.{least_past}
use Rattle.pairs.proofs.past.Given as goal

abbrev pub invariant-loop-x : goal.invariant-loop-x
invariant-loop-x l = l.least_so_far ≡ least_past l.part (take l.x-index l.before) l.y l.least
