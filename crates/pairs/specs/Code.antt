-- What the code answers inside. Nothing here has to be believed: no public contract cites it.
use Rattle.std.specs.Prelude.{ℕ, cond, List, [], ◌∷◌}
use Rattle.entries.specs.Entry.{begin_in}
use Rattle.entries.specs.Least.{is_first, lesser}

-- the first twin begins at l so far; and with x and y
unfoldable pub least_with : List ℕ → ℕ → ℕ → ℕ → ℕ
least_with s x y l = cond (is_first s x y) (lesser (begin_in y) l) (cond (is_first s y x) (lesser (begin_in x) l) l)

-- with y and each of some entries
unfoldable pub least_past : List ℕ → List ℕ → ℕ → ℕ → ℕ
least_past s [] y l = l
least_past s (x ∷ t) y l = least_past s t y (least_with s x y l)
