use Prim.Native.Nat.{◌+◌, ◌-◌, ◌*◌, ◌≤◌}
use mathlib.Core.Path.{◌≡◌}
use lib.ListN.{length}
use Rattle.passing.specs.Code.{contents_end}
use Rattle.passing.proofs.+pass_contents_pass_frame_pass_payload.Given as goal

abbrev pub decreases-pass_contents : goal.decreases-pass_contents
decreases-pass_contents l = 3 * l.left + 1

abbrev pub decreases-pass_frame : goal.decreases-pass_frame
decreases-pass_frame l = 3 * l.left

abbrev pub decreases-pass_payload : goal.decreases-pass_payload
decreases-pass_payload l = 3 * l.left + 2

abbrev pub invariant-pass_contents-loop-p : goal.invariant-pass_contents-loop-p
invariant-pass_contents-loop-p l = (l.p ≤ length l.part) × (contents_end l.left l.named l.at l.part ≡ contents_end l.left l.named l.p l.part)

abbrev pub decreases-pass_contents-loop-p : goal.decreases-pass_contents-loop-p
decreases-pass_contents-loop-p l = length l.part - l.p
