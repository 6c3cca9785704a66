-- Two constructors that differ are not equal: where an equation in scope says that they are, `cc` makes 0 of 1 from it, and anything follows.
use Prim.Native.Nat.{ℕ}
use native.Mathlib.Omega.{arith}
use mathlib.Core.Path.{◌≡◌}

pub clash : {X : Type 0} → ◌≡◌ {A = ℕ} 0 1 → X
clash z = absurd (omega arith)
