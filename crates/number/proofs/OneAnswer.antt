-- No second answer: a contract that says `r ≡ d` is met by one answer. Stated once, and then of each public call, here and in the crates above: what it
-- answers, and what a lent buffer holds afterwards, is equal to a definition applied to its inputs.
use Prim.Native.Nat.{ℕ}
use mathlib.Core.Path.{◌≡◌, ◌∙⁻¹◌}
use mathlib.Core.List.{List}
use Rattle.number.specs.VarUInt.{var_uint}
use Rattle.number.specs.Fixed.{fixed32, fixed64}
use Rattle.number.specs.Negative.{negative}
use Rattle.number.specs.Signed.{from_twos}

abbrev pub One : {A : Type 0} → A → Type 0
One {A} d = (a b : A) → a ≡ d → b ≡ d → a ≡ b

pub one : {A : Type 0} (d : A) → One d
one d a b e f = e ∙⁻¹ f

-- not: one that gives every VarUInt one byte; one that calls every form minimal; one that tells a cut with no byte missing
pub read_one : (part : List ℕ) → One (var_uint part)
read_one part = one (var_uint part)

-- not: one that reads the least byte first
pub read32_one : (part : List ℕ) → One (fixed32 part)
read32_one part = one (fixed32 part)

pub read64_one : (part : List ℕ) → One (fixed64 part)
read64_one part = one (fixed64 part)

-- not: one that answers minus M; one that reads ZigZag
pub minus_plus_one_one : (m : ℕ) → One (negative m)
minus_plus_one_one m = one (negative m)

-- not: one that has no sign
pub ticks_one : (m : ℕ) → One (from_twos m)
ticks_one m = one (from_twos m)
