-- No second answer, for what the calls for C are handed and answer of places. What is told of an answer has `told_one` (crates/replies).
use Rattle.std.specs.Prelude.{Result}
use Prim.Native.Nat.{ℕ}
use Rattle.number.proofs.OneAnswer.{One, one}
use Rattle.place_replies.specs.PlaceReply.{after_of, checked_reply}
use Rattle.format.specs.declared.Stop.{Stop}

pub after_of_one : (some last : ℕ) → One (after_of some last)
after_of_one some last = one (after_of some last)

-- a check is told by its number alone
pub checked_one : (answer : Result (Unit {0}) Stop) → One (checked_reply answer).code
checked_one answer = one (checked_reply answer).code
