-- Two answers of a reading that are equal are equal in what they say.
use Prim.Native.Nat.{ℕ}
use mathlib.Core.Path.{◌≡◌, ap}
use mathlib.Core.Bool.{Bool, false}
use Rattle.std.proofs.Common.{Result, Ok, Err}
use Rattle.number.specs.VarUInt.{cut, whole}
use Rattle.number.specs.declared.VarUInt.{VarUInt}
use Rattle.number.specs.declared.Cut.{Cut}

abbrev missing_of : Result VarUInt Cut → ℕ
missing_of (Ok n) = 0
missing_of (Err c) = c.missing

abbrev value_in : Result VarUInt Cut → ℕ
value_in (Ok n) = n.value
value_in (Err c) = 0

abbrev length_in : Result VarUInt Cut → ℕ
length_in (Ok n) = n.length
length_in (Err c) = 0

abbrev minimal_in : Result VarUInt Cut → Bool
minimal_in (Ok n) = n.minimal
minimal_in (Err c) = false

pub cut_same : (n m : ℕ) → cut n ≡ cut m → n ≡ m
cut_same n m e = ap missing_of e

pub whole_same : (v n : ℕ) (x : Bool) (w m : ℕ) (y : Bool) → whole v n x ≡ whole w m y → (v ≡ w) × (n ≡ m) × (x ≡ y)
whole_same v n x w m y e = (ap value_in e, ap length_in e, ap minimal_in e)
