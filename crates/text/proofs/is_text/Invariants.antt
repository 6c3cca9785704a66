-- `text::is_text` meets its contract. The loop's invariant: whole characters reach up to `at`.
use Prim.Native.Nat.{◌-◌, ◌≤◌}
use mathlib.Core.Bool.{true}
use mathlib.Core.List.{[]}
use lib.ListN.{length}
use Rattle.text.specs.Passed.{Passed}
use Rattle.text.proofs.is_text.Given as goal

abbrev pub invariant-loop-at : goal.invariant-loop-at
invariant-loop-at l = (l.at ≤ length l.part) × Passed [] l.part 0 l.at true

abbrev pub decreases-loop-at : goal.decreases-loop-at
decreases-loop-at l = length l.part - l.at
