-- No second answer, for the validator. So it shuts out, among others, a validator that answers 0 whatever it is given (the empty payload's
-- mask is 1), and one that answers 1 whatever it is given (the mask of `02 00` is 0).
use Prim.Native.Nat.{ℕ}
use mathlib.Core.List.{List}
use Rattle.number.proofs.OneAnswer.{One, one}
use Rattle.format.specs.Mask.{mask}
use Rattle.validate.specs.Asked.{mask_with}

pub one_answer : (modes : ℕ) (payload : List ℕ) → One (mask modes payload)
one_answer modes payload = one (mask modes payload)

-- the mask and the table. Not: one whose mask depends on the table; one that leaves entries in it
pub validate_with_one : (modes : ℕ) (payload table : List ℕ) → One (mask_with modes payload table)
validate_with_one modes payload table = one (mask_with modes payload table)
