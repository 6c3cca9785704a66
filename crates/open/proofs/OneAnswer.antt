-- No second answer, for the check of a place, as a call and as the reading calls use it. Beside some stand wrong programs that the contract rules out.
use Prim.Native.Nat.{ℕ}
use mathlib.Core.List.{List}
use Rattle.number.proofs.OneAnswer.{One, one}
use Rattle.places.specs.declared.Place.{Place}
use Rattle.places.specs.Places.{check, checked}
use Rattle.open.specs.Opening.{opened_by}

module _ (payload : List ℕ) (place : Place) where
  -- not: one that passes every place; one that looks at the depth before the start and the end
  pub checked_one : One (checked payload place)
  checked_one = one (checked payload place)

  -- not: one that opens a place whose payload ends before the place; one that begins the contents at the size
  pub open_place_one : One (opened_by place.end (check payload place))
  open_place_one = one (opened_by place.end (check payload place))
