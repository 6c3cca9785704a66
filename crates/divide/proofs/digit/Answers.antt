use native.Mathlib.Omega.{arith}
use Rattle.divide.proofs.DigitLaws.{digit_byte}
use Rattle.divide.proofs.digit.Goals as goal

pub returns-else-at-eq0 : goal.returns-else-at-eq0
returns-else-at-eq0 c =
    let given = c.requires in
    digit_byte _ _ given.0 _ _ (omega arith) given.1 _ c.begin_of.ensures _ c.from.ensures
