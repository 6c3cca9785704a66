-- What the code sees in the faults that the reading noted: each flaw by itself.
use mathlib.Core.Path.{◌≡◌, refl, sym, ap, ◌∙◌}
use mathlib.Core.Bool.{Bool, true, false, ◌&&◌, cond}
use mathlib.Core.List.{List}
use lib.Dec.{eqb}
use Rattle.format.specs.declared.Flaw.{Flaw}
use Rattle.format.specs.Mask.{has, mode_of, names_mode}
use Rattle.faults.specs.declared.Faults.{Faults}
use Rattle.faults.specs.Noted.{nothing, asks, noted, is_noted}
use Rattle.faults.proofs.SumLaws.{noted_told}
use Rattle.frame.specs.Pieces.{all_modes}

all_asked : (f : Flaw) → asks all_modes f ≡ true
all_asked f = go (eqb (mode_of f) names_mode)
  where
    go : (b : Bool) → cond b true true ≡ true
    go true = refl
    go false = refl

pub told : (f : Flaw) (h : Faults) (fs : List Flaw) (u t : Bool) → h ≡ noted all_modes nothing fs → u ≡ is_noted f h → u ≡ t → has f fs ≡ t
told f h fs u t e i j = sym (ap (λ b. b && has f fs) (all_asked f)) ∙ sym (noted_told all_modes fs f) ∙ sym (ap (is_noted f) e) ∙ sym i ∙ j
