-- Laws of two's complement.
use Prim.Native.Nat.{ℕ, ◌-◌, ◌^◌, ◌<◌}
use native.Mathlib.Omega.{arith}
use mathlib.Core.Path.{◌≡◌, refl, ap}
use mathlib.Core.Bool.{Bool, true, false, cond}
use lib.Dec.{ltb}
use lib.IntN.{pos, negsuc}
use borrow.Author.Tests.{lt-ltb, le-ltb}
use Rattle.number.specs.Signed.{from_twos, to_twos}

pub twos_pos : (n : ℕ) → n < 2 ^ 63 → from_twos (to_twos (pos n)) ≡ pos n
twos_pos n h = rw (lt-ltb n (2 ^ 63))

pub twos_neg : (n : ℕ) → n < 2 ^ 63 → from_twos (to_twos (negsuc n)) ≡ negsuc n
twos_neg n h =
    let e : 2 ^ 64 - 1 - (2 ^ 64 - 1 - n) ≡ n = omega arith in
    rw (le-ltb (2 ^ 64 - 1 - n) (2 ^ 63) (omega arith)) (ap negsuc e)

pub twos_inv : (m : ℕ) → m < 2 ^ 64 → to_twos (from_twos m) ≡ m
twos_inv m h = go (ltb m (2 ^ 63))
  where
    go : (x : Bool) → to_twos (cond x (pos m) (negsuc (2 ^ 64 - 1 - m))) ≡ m
    go true = refl
    go false = omega arith

pub twos_pos_lt : (n : ℕ) → n < 2 ^ 63 → to_twos (pos n) < 2 ^ 64
twos_pos_lt n h = omega arith

pub twos_neg_lt : (n : ℕ) → n < 2 ^ 63 → to_twos (negsuc n) < 2 ^ 64
twos_neg_lt n h = omega arith
