-- Patterns in the other width: signs of zero, the least and the greatest numbers, infinities, NaNs; integers at the ends of their range;
-- and what Float32 holds, and what not.
use Prim.Native.Nat.{ℕ}
use mathlib.Core.Path.{◌≡◌, refl}
use mathlib.Core.Bool.{true, false}
use mathlib.Core.List.{List, [], ◌∷◌, map}
use lib.IntN.{pos, negsuc}
use lib.Ieee.{of_bits, to_bits, of_int, nan_bits}
use Rattle.float.specs.Rule.{holds}
use Rattle.float.specs.Width.{widen, narrow, of_integer}

abbrev narrows : List ℕ
narrows = 0x00000000 ∷ 0x80000000 ∷ 0x00000001 ∷ 0x007fffff ∷ 0x00800000 ∷ 0x3f800000 ∷ 0xc2280000 ∷ 0x7f7fffff ∷ 0x7f800000 ∷ 0xff800000 ∷ []

abbrev wides : List ℕ
wides = 0x0000000000000000 ∷ 0x8000000000000000 ∷ 0x36a0000000000000 ∷ 0x380fffffc0000000 ∷ 0x3810000000000000 ∷ 0x3ff0000000000000 ∷ 0xc045000000000000
    ∷ 0x47efffffe0000000 ∷ 0x7ff0000000000000 ∷ 0xfff0000000000000 ∷ []

pub widened : map widen narrows ≡ wides
unfolding widen of_bits to_bits nan_bits
widened = refl

pub narrowed : map narrow wides ≡ narrows
unfolding narrow of_bits to_bits
narrowed = refl

pub nans_widened : map widen (0x7fc00000 ∷ 0xffc00000 ∷ 0x7f800001 ∷ 0xff812345 ∷ []) ≡ 0x7ff8000000000000 ∷ 0xfff8000000000000 ∷ 0x7ff0000020000000
    ∷ 0xfff02468a0000000 ∷ []
unfolding widen of_bits to_bits nan_bits
nans_widened = refl

pub integers : map of_integer (pos 0 ∷ pos 1 ∷ negsuc 0 ∷ pos 0x20000000000000 ∷ negsuc 0x1fffffffffffff ∷ []) ≡ 0 ∷ 0x3ff0000000000000 ∷ 0xbff0000000000000
    ∷ 0x4340000000000000 ∷ 0xc340000000000000 ∷ []
unfolding of_integer of_int to_bits
integers = refl

-- below the least number, a digit too many on either side of the exponent 897, past the greatest, the least Float64, and two NaNs
abbrev others : List ℕ
others = 0x3690000000000000 ∷ 0x3800000020000000 ∷ 0x3810000010000000 ∷ 0x47f0000000000000 ∷ 0x0000000000000001 ∷ 0x7ff0000000000001 ∷ 0xfff8000000000000 ∷ []

pub held : map holds wides ≡ map (λ _. true) wides
unfolding holds
held = refl

pub not_held : map holds others ≡ map (λ _. false) others
unfolding holds
not_held = refl
