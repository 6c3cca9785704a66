-- No second answer, for the call on write lists: the number answered, and all that was lent holds afterwards.
use Prim.Native.Nat.{ℕ}
use mathlib.Core.List.{List}
use Rattle.number.proofs.OneAnswer.{One, one}
use Rattle.sending.specs.Sent.{sent}

pub send_one : (list output work answer : List ℕ) → One (sent list output work answer)
send_one list output work answer = one (sent list output work answer)
