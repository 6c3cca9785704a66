-- Work numbers cleared: while the loop runs, and all of them.
use Prim.Native.Nat.{ℕ}
use mathlib.Core.Path.{◌≡◌, refl, ◌∙◌}
use mathlib.Core.List.{List}
use lib.ListN.{length}
use Rattle.frames.specs.Writer.{zeros}
use Rattle.container.specs.Numbers.{cleared}

-- z is as long as v, and all zero
pub record AllZero (v z : List ℕ) : Type 0 where
  pub is : z ≡ zeros (length v)

pub all_zero : (v z : List ℕ) → z ≡ cleared v → AllZero v z
unfolding cleared
all_zero v z e = record { is = e }

-- what was as long is cleared alike
pub zero_alike : (w v z : List ℕ) → z ≡ cleared v → length v ≡ length w → AllZero w z
unfolding cleared
zero_alike w v z e l = record { is = e ∙ rw l }

pub cleared_is : (v : List ℕ) → zeros (length v) ≡ cleared v
unfolding cleared
cleared_is v = refl
