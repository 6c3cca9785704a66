-- One flaw more, no flaw, and flaws behind flaws.
use Prim.Native.Nat.{ℕ, ◌/◌, ◌%◌, ◌<◌}
use native.Mathlib.Omega.{arith}
use mathlib.Core.Path.{◌≡◌, refl}
use mathlib.Core.Bool.{Bool, true, false, ◌&&◌}
use mathlib.Core.List.{List, [], ◌∷◌, ◌++◌}
use lib.Bits.{bit_or}
use lib.Dec.{eqb}
use Rattle.format.specs.declared.Flaw.{Flaw}
use Rattle.format.specs.declared.Flaw.TheVariants.{Twin, Blank, Long, Low, Wide, NotUtf8, NotUniform}
use Rattle.format.specs.Mask.{flaw_value}
use Rattle.faults.specs.declared.Modes.{Modes}
use Rattle.faults.specs.declared.Faults.{Faults}
use Rattle.faults.specs.Noted.{marked, asks, noted, flaw_if, is_noted}

pub noted_none : (m : Modes) (g : Faults) → noted m g [] ≡ g
unfolding noted
noted_none m g = refl

noted_one : (m : Modes) (g : Faults) (x : Bool) (f : Flaw) → marked g (asks m f && x) (flaw_value f) ≡ noted m g (flaw_if x f)
unfolding noted
noted_one m g true f = at (asks m f)
  where
    at : (b : Bool) → marked g (b && true) (flaw_value f) ≡ marked g b (flaw_value f)
    at true = refl
    at false = refl
noted_one m g false f = at (asks m f)
  where
    at : (b : Bool) → marked g (b && false) (flaw_value f) ≡ g
    at true = refl
    at false = refl

-- a flaw that is not asked for
pub unasked : (m : Modes) (g : Faults) (x : Bool) (f : Flaw) → asks m f ≡ false → noted m g (flaw_if x f) ≡ g
unfolding noted
unasked m g true f e = rw e
unasked m g false f e = refl

-- flaws behind flaws
pub noted_more : (m : Modes) (g : Faults) (fs gs : List Flaw) → noted m (noted m g fs) gs ≡ noted m g (fs ++ gs)
unfolding noted
noted_more m g [] gs = refl
noted_more m g (f ∷ fs) gs = noted_more m (marked g (asks m f) (flaw_value f)) fs gs

-- ---- what the code knows at each return

module _ (m : Modes) (g : Faults) (f : Flaw) (x a : Bool) (e : a ≡ asks m f) where
  pub note_met : (v : ℕ) → v ≡ flaw_value f → (a && x) ≡ true → record { sum = bit_or g.sum v } ≡ noted m g (flaw_if x f)
  note_met v i h = rw (← noted_one m g x f, ← e, h, i)

  pub note_not : (a && x) ≡ false → g ≡ noted m g (flaw_if x f)
  note_not h = rw (← noted_one m g x f, ← e, h)

-- each value is more than 0
value_some : (f : Flaw) → 0 < flaw_value f
value_some Twin = omega arith
value_some Blank = omega arith
value_some Long = omega arith
value_some Low = omega arith
value_some Wide = omega arith
value_some NotUtf8 = omega arith
value_some NotUniform = omega arith

pub has_some : (f : Flaw) (v : ℕ) → v ≡ flaw_value f → 0 < v
has_some f v e = rw e (value_some f)

pub has_is : (g : Faults) (f : Flaw) (v : ℕ) → v ≡ flaw_value f → eqb (g.sum / v % 2) 1 ≡ is_noted f g
has_is g f v e = rw e
