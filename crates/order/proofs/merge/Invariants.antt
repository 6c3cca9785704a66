use Prim.Native.Nat.{◌+◌, ◌-◌}
use Rattle.order.proofs.MergeReturns.{Merging}
use Rattle.order.proofs.merge.Given as goal

abbrev pub invariant-loop-i : goal.invariant-loop-i
invariant-loop-i l = Merging l.part l.m l.n l.room l.initial.table l.table l.i l.j

abbrev pub decreases-loop-i : goal.decreases-loop-i
decreases-loop-i l = l.n - (l.i + l.j)
