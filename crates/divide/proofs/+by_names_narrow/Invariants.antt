use Prim.Native.Nat.{◌+◌, ◌-◌, ◌*◌}
use lib.ListN.{length}
use Rattle.divide.proofs.DepthLaws.{bits}
use Rattle.divide.proofs.NarrowReturns.{Narrowing}
use Rattle.divide.proofs.+by_names_narrow.Given as goal

abbrev pub decreases-by_names : goal.decreases-by_names
decreases-by_names l = 2 * bits (length l.table.now) + 1

abbrev pub decreases-narrow : goal.decreases-narrow
decreases-narrow l = 2 * bits (length l.table.now)

abbrev pub invariant-by_names-loop-count : goal.invariant-by_names-loop-count
invariant-by_names-loop-count l = Narrowing l.part l.initial.table l.table l.best l.count l.from

abbrev pub decreases-by_names-loop-count : goal.decreases-by_names-loop-count
decreases-by_names-loop-count l = l.count + (16777217 - l.from)
