-- No second answer, for steps and lookup. Beside some stand wrong programs that the contract rules out.
use Rattle.std.specs.Prelude.{Option}
use Prim.Native.Nat.{ℕ}
use mathlib.Core.List.{List}
use Rattle.number.proofs.OneAnswer.{One, one}
use Rattle.places.specs.declared.Place.{Place}
use Rattle.places.specs.Places.{step, lookup}

module _ (payload : List ℕ) (place : Place) where
  -- not: one that gives the first field whatever the last place was; one that says "no more" after the first field
  pub step_one : (last : Option Place) → One (step payload place last)
  step_one last = one (step payload place last)

  -- not: one that gives the last field of the name; one that passes over a field at fault
  pub lookup_one : (name : List ℕ) → One (lookup payload place name)
  lookup_one name = one (lookup payload place name)
