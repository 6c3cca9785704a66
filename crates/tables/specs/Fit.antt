-- Entries whose names all stand in the part.
use Rattle.std.specs.Prelude.{ℕ, ◌+◌, Bool, true, ◌&&◌, List, [], ◌∷◌, length, leb}
use Rattle.entries.specs.Entry.{begin_in, length_in}

-- the name of an entry stands in the part
abbrev pub fits : List ℕ → ℕ → Bool
fits s x = leb (begin_in x + length_in x) (length s)

unfoldable pub all_fit : List ℕ → List ℕ → Bool
all_fit s [] = true
all_fit s (x ∷ t) = fits s x && all_fit s t
