use Prim.Native.Nat.{◌-◌}
use Rattle.read.proofs.LookLaws.{Looking}
use Rattle.read.proofs.look.Given as goal

abbrev pub invariant-loop-field : goal.invariant-loop-field
invariant-loop-field l = Looking l.payload l.object l.form l.begin l.name l.at

abbrev pub decreases-loop-field : goal.decreases-loop-field
decreases-loop-field l = l.object.end - l.at
