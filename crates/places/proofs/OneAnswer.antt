-- No second answer, for the top place and how places are made. Beside each stand wrong programs that the contract rules out.
use Prim.Native.Nat.{ℕ}
use Rattle.std.specs.Prelude.{Result}
use Rattle.format.specs.declared.Stop.{Stop}
use mathlib.Core.List.{List}
use Rattle.number.proofs.OneAnswer.{One, one}
use Rattle.places.specs.Places.{place_with, top}
use Rattle.places.specs.Placed.{placed}
use Rattle.head.specs.declared.Met.{Met}

module _ (payload : List ℕ) where
  -- not: one at depth 0; one that answers a fault for every payload
  pub top_one : One (top payload)
  top_one = one (top payload)

-- not: one that takes the end for the start
pub of_one : (kind start end depth : ℕ) → One (place_with kind start end depth)
of_one kind start end depth = one (place_with kind start end depth)

-- not: one that gives every field depth 1; one that starts the place at the name
pub placed_one : (met : Result Met Stop) (depth : ℕ) → One (placed depth met)
placed_one met depth = one (placed depth met)
