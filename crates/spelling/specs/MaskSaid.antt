-- What document 01, as 02 leaves it, says of the mask, whole ("The mask"): m gives the payload's mask for each mode set. The reader is no part of this.
use Rattle.std.specs.Prelude.{ℕ, ◌+◌, ◌≤◌, ◌≡◌, ◌⊎◌, List, ◌++◌, length}
use Rattle.format.specs.declared.Form.TheVariants.{Top}
use Rattle.format.specs.declared.Stop.{Stop}
use Rattle.format.specs.Limits.{depth_limit, length_limit}
use Rattle.format.specs.Reader.{Standing, Named, Layout}
use Rattle.format.specs.Mask.{stop_value, flaws, padding_of}
use Rattle.spelling.specs.Flawed.{sum_where}
use Rattle.spelling.specs.FlawTable.{FlawsTold}
use Rattle.spelling.specs.Spells.{any_form, Spells}
use Rattle.spelling.specs.Halts.{Halts}

-- it halts with k, and that is the whole mask
abbrev pub StopSaid : List ℕ → (ℕ → ℕ) → Type 0
StopSaid payload m = (k : Stop) × Halts k payload × ((modes : ℕ) → m modes ≡ stop_value k)

-- or it is within the length limit and begins with a spelling of a layout: the mask is the sum of the flaws that the table gives it, each once where its mode
-- is asked, and of what is left where Padding is
abbrev pub SumSaid : List ℕ → (ℕ → ℕ) → Type 0
SumSaid payload m =
    (x : Named (Standing (Layout depth_limit))) × (w left : List ℕ) × (length payload ≤ length_limit) × (payload ≡ w ++ left) × Spells any_form depth_limit Top x w
    × (t : FlawsTold x w) × ((modes : ℕ) → m modes ≡ sum_where modes t.so flaws + padding_of modes left)

abbrev pub MaskSaid : List ℕ → (ℕ → ℕ) → Type 0
MaskSaid payload m = StopSaid payload m ⊎ SumSaid payload m
