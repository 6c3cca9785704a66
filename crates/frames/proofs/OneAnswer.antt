-- No second answer: a refusal has one number, and at a place is one.
use Rattle.std.specs.Prelude.{ℕ}
use Rattle.number.proofs.OneAnswer.{One, one}
use Rattle.frames.specs.declared.Refusal.{Refusal}
use Rattle.frames.specs.Writer.{refusal_number, refusal_at}

pub refusal_number_one : (refusal : Refusal) → One (refusal_number refusal)
refusal_number_one refusal = one (refusal_number refusal)

pub at_one : (refusal : Refusal) (place : ℕ) → One (refusal_at refusal place)
at_one refusal place = one (refusal_at refusal place)
