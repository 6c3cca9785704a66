-- What the calls on floats answer: a Float64 as a Float32 where Float32 holds it, and an integer as a Float64 where every one up to it is exact.
use Rattle.std.specs.Prelude.{ℕ, cond, ℤ, Option, Some, None}
use Rattle.float.specs.Rule.{holds}
use Rattle.float.specs.Width.{narrow, is_exact, of_integer}

abbrev pub narrowed : ℕ → Option ℕ
narrowed b = cond (holds b) (Some (narrow b)) None

abbrev pub exact : ℤ → Option ℕ
exact z = cond (is_exact z) (Some (of_integer z)) None
