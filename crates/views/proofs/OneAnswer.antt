-- No second answer, for a place's bytes and a name's. Beside some stand wrong programs that the contract rules out.
use Rattle.std.specs.Prelude.{Option}
use Prim.Native.Nat.{ℕ}
use mathlib.Core.List.{List}
use Rattle.number.proofs.OneAnswer.{One, one}
use Rattle.places.specs.declared.Place.{Place}
use Rattle.places.specs.Places.{name_view, part, view}

module _ (payload : List ℕ) (place : Place) where
  -- not: one that leaves the name's last byte out; one that is always empty
  pub name_view_one : (last : Option Place) → One (name_view payload place last)
  name_view_one last = one (name_view payload place last)

  -- not: one that keeps the size; one that shows a part of a refused place
  pub part_one : One (part payload place)
  part_one = one (part payload place)

  pub view_one : One (view payload place)
  view_one = one (view payload place)
