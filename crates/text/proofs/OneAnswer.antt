-- No second answer, for the calls on text.
use Prim.Native.Nat.{ℕ}
use mathlib.Core.List.{List}
use Rattle.number.proofs.OneAnswer.{One, one}
use Rattle.text.specs.Equal.{equal}
use Rattle.text.specs.Utf8.{is_text}

-- not: one that takes a surrogate for text; one that takes no byte above 7F
pub is_text_one : (part : List ℕ) → One (is_text part)
is_text_one part = one (is_text part)

-- not: one for which a part is equal to what it begins with
pub are_equal_one : (a b : List ℕ) → One (equal a b)
are_equal_one a b = one (equal a b)
