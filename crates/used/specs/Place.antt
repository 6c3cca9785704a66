-- Where the first frame stands whose name begins at a place of the part or behind it, among the frames of an object, which stand in the part one after another
-- with so many levels left.
use Rattle.std.specs.Prelude.{ℕ, zero, suc, cond, List, length, leb, Some, Option, None}
use Rattle.passing.specs.FrameNames.{name_at}
use Rattle.names.specs.declared.Name.{Name}

-- what is read at a: no frame more, or one that is the one, or one before those behind it
abbrev pub place_at : ℕ → ℕ → Option Name → (ℕ → ℕ) → ℕ
place_at g a None more = a
place_at g a (Some p) more = cond (leb g p.begin) a (more p.next)

-- from a position on: the first frame whose name begins at g or behind it; where the frames end, if none does. The number bounds how many, and the length is
-- enough
unfoldable pub place_from : ℕ → List ℕ → ℕ → ℕ → ℕ → ℕ
place_from d s g zero a = a
place_from d s g (suc k) a = place_at g a (name_at d a s) (λ n. place_from d s g k n)

abbrev pub frame_place : ℕ → List ℕ → ℕ → ℕ
frame_place d s g = place_from d s g (length s) 0
