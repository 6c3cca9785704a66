-- No second answer, for the calls on parts and floats: the number answered, and all that the lent numbers hold afterwards.
use Prim.Native.Nat.{ℕ}
use mathlib.Core.List.{List}
use Rattle.number.proofs.OneAnswer.{One, one}
use Rattle.text.specs.Equal.{equal}
use Rattle.text.specs.Utf8.{is_text}
use Rattle.float.specs.Rule.{holds}
use Rattle.replies.specs.Number.{truth}
use Rattle.replies.specs.Reply.{varuint}

pub varuint_one : (s answer : List ℕ) → One (varuint s answer)
varuint_one s answer = one (varuint s answer)

pub is_text_one : (s : List ℕ) → One (truth (is_text s))
is_text_one s = one (truth (is_text s))

pub are_equal_one : (a b : List ℕ) → One (truth (equal a b))
are_equal_one a b = one (truth (equal a b))

pub float32_holds_one : (bits : ℕ) → One (truth (holds bits))
float32_holds_one bits = one (truth (holds bits))
