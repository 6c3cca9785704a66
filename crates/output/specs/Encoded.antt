-- A frame again, in the second pass: a Float64's bits, and the ID as encoded.
use Rattle.std.specs.Prelude.{ℕ, true, false, cond, List, drop, eqb}
use Rattle.float.specs.Rule.{holds}
use Rattle.frames.specs.Container.{container_id, uniform_in}
use Rattle.frame.specs.Pieces.{bits_in}

unfoldable pub bits_at : List ℕ → ℕ → ℕ
bits_at s at = bits_in (drop at s)

-- the ID as encoded of a whole frame of the kind b: 02 and 04 are containers, and x is what the first pass left in their work number; a Float64 (0B) that
-- Float32 holds becomes one (0A)
unfoldable pub final_id : List ℕ → ℕ → ℕ → ℕ → ℕ
final_id s b start x =
    cond (eqb b 2) (container_id true (uniform_in x)) (cond (eqb b 4) (container_id false (uniform_in x))
    (cond (eqb b 11) (cond (holds (bits_at s start)) 10 11) b))
