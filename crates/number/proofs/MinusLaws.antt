-- How machine arithmetic of 64 bits makes minus (m plus 1): 0 minus m, and then minus 1, neither of which wraps.
use mathlib.Core.Path.{◌≡◌, refl, ap, ◌∙◌}
use Prim.Native.Nat.{ℕ, zero, suc, ◌<◌, ◌^◌}
use native.Mathlib.Omega.{arith}
use lib.IntN.{ℤ, pos, negsuc, ◌-ℤ◌, neg_ℤ}
use borrow.Author.Tests.{lt-ltb}
use mir.Syntax.{w64}
use mir.Val.{SFits, to_z, of_z}
use mir.ValLaws.{to_z_pos, to_z-of_z}

from_zero : (m : ℕ) → pos 0 -ℤ pos m ≡ neg_ℤ (pos m)
from_zero zero = refl
from_zero (suc n) = rw (lt-ltb 0 (suc n) (omega arith)) (ap negsuc (omega arith))

less_one : (m : ℕ) → neg_ℤ (pos m) -ℤ pos 1 ≡ negsuc m
less_one zero = refl
less_one (suc n) = ap negsuc (omega arith)

module _ (m : ℕ) (h : m < 2 ^ 63) where
  negation_fits : SFits w64 (neg_ℤ (pos m))
  negation_fits = go m h
    where
      go : (m : ℕ) → m < 2 ^ 63 → SFits w64 (neg_ℤ (pos m))
      go zero h = record { sfits = h }
      go (suc n) h = record { sfits = omega arith }

  first : pos 0 -ℤ to_z w64 m ≡ neg_ℤ (pos m)
  first = ap (λ (z : ℤ). pos 0 -ℤ z) (to_z_pos w64 m h) ∙ from_zero m

  pub minus_first : SFits w64 (pos 0 -ℤ to_z w64 m)
  minus_first = rw first negation_fits

  second : to_z w64 (of_z w64 (pos 0 -ℤ to_z w64 m)) -ℤ pos 1 ≡ negsuc m
  second =
      ap (λ (z : ℤ). to_z w64 (of_z w64 z) -ℤ pos 1) first
      ∙ ap (λ (z : ℤ). z -ℤ pos 1) (to_z-of_z w64 (neg_ℤ (pos m)) negation_fits)
      ∙ less_one m

  pub minus_second : SFits w64 (to_z w64 (of_z w64 (pos 0 -ℤ to_z w64 m)) -ℤ pos 1)
  minus_second = rw second (record { sfits = h })

  pub minus_is : to_z w64 (of_z w64 (to_z w64 (of_z w64 (pos 0 -ℤ to_z w64 m)) -ℤ pos 1)) ≡ negsuc m
  minus_is = ap (λ (z : ℤ). to_z w64 (of_z w64 z)) second ∙ to_z-of_z w64 (negsuc m) (record { sfits = h })
