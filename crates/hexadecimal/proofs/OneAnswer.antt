-- No second answer, for typing in lower-case hexadecimal.
use Prim.Native.Nat.{ℕ}
use mathlib.Core.List.{List}
use Rattle.number.proofs.OneAnswer.{One, one}
use Rattle.hexadecimal.specs.declared.Typing.{Typing}
use Rattle.hexadecimal.specs.Typing.{told, start, fed}

pub character_of_one : (character : ℕ) → One (told character)
character_of_one character = one (told character)

pub nothing_one : One start
nothing_one = one start

-- what is typed, and what the list then holds
pub feed_one : (text : List ℕ) (typing : Typing) (list : List ℕ) → One (fed text typing list)
feed_one text typing list = one (fed text typing list)
