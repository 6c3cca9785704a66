-- No second answer, for what the calls for C answer in numbers: the number, and all that the lent numbers hold afterwards.
use Prim.Native.Nat.{ℕ}
use mathlib.Core.Bool.{Bool}
use mathlib.Core.List.{List}
use Rattle.number.proofs.OneAnswer.{One, one}
use Rattle.replies.specs.Number.{truth}
use Rattle.places.specs.declared.PlaceError.{PlaceError}
use Rattle.replies.specs.Reply.{Reply, told, place_code}

pub number_of_one : (t : Bool) → One (truth t)
number_of_one t = one (truth t)

pub place_code_one : (error : PlaceError) → One (place_code error)
place_code_one error = one (place_code error)

-- whatever is answered, and however many numbers are asked for
pub told_one : (n : ℕ) (reply : Reply) (held : List ℕ) → One (told n reply held)
told_one n reply held = one (told n reply held)
