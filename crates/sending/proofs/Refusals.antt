-- The call on write lists, whenever its answer is not 0: "a refused write gives its number and place,
-- leaves the output untouched and zeroes the work numbers."
use Prim.Native.Nat.{ℕ}
use mathlib.Core.Path.{◌≡◌, refl}
use mathlib.Core.Bool.{Bool, true, false, cond}
use mathlib.Core.List.{List}
use lib.ListN.{length}
use lib.Dec.{ltb}
use Rattle.frames.specs.Writer.{Outcome, refuse, wrote, outcome, zeros, result_of, written}
use Rattle.replies.specs.Number.{too_few}
use Rattle.sending.specs.Sent.{Sent, sent_of, sent}

module _ (list output work answer : List ℕ) where
  abbrev Left : Sent → Type 0
  Left r = (r.output ≡ output) × (r.work ≡ zeros (length work))

  abbrev by : Bool → Outcome → Sent
  by few o = cond few (record { code = too_few; held = answer; output = output; work = zeros (length work) }) (sent_of (result_of o output work) answer)

  left_by : (few : Bool) (o : Outcome) → ((by few o).code ≡ 0 → ⊥) → Left (by few o)
  left_by true o h = (refl, refl)
  left_by false (refuse n p) h = (refl, refl)
  left_by false (wrote e z) h = absurd (h refl)

  pub refused_leaves : ((sent list output work answer).code ≡ 0 → ⊥) → Left (sent list output work answer)
  unfolding sent written
  refused_leaves h = left_by (ltb (length answer) 1) (outcome (length output) (length work) list) h
