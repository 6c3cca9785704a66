-- The work numbers that are lent.
use Rattle.std.specs.Prelude.{ℕ, List, length}
use Rattle.frames.specs.Writer.{zeros}

-- work numbers after a refusal
unfoldable pub cleared : List ℕ → List ℕ
cleared work = zeros (length work)
