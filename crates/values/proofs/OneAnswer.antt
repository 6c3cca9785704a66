-- No second answer, for the calls on values. Beside some stand wrong programs that the contract rules out.
use Prim.Native.Nat.{ℕ}
use mathlib.Core.List.{List}
use Rattle.number.proofs.OneAnswer.{One, one}
use Rattle.places.specs.declared.Place.{Place}
use Rattle.places.specs.Values.{double, signed, unsigned, ticks}

module _ (payload : List ℕ) (place : Place) where
  -- not: one that rounds 2^53 + 1; one that loses the sign of a NaN
  pub double_one : One (double payload place)
  double_one = one (double payload place)

  -- not: one that reads 09 as ZigZag; one that wraps 2^63
  pub signed_one : One (signed payload place)
  signed_one = one (signed payload place)

  -- not: one that reads 09 as M; one that refuses 2^63
  pub unsigned_one : One (unsigned payload place)
  unsigned_one = one (unsigned payload place)

  -- not: one that reads ticks without a sign; one that takes an Uuid for a date
  pub ticks_one : One (ticks payload place)
  ticks_one = one (ticks payload place)
