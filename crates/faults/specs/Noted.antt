-- The faults that do not stop, as the code keeps them: the sum of the values of those that were met and are asked for, each once.
use Rattle.std.specs.Prelude.{ℕ, ◌/◌, ◌%◌, Bool, true, false, cond, List, [], ◌∷◌, eqb}
use Rattle.std.specs.Int.Bits.{bit_or}
use Rattle.format.specs.declared.Flaw.{Flaw}
use Rattle.format.specs.Mask.{flaw_value, mode_of, names_mode}
use Rattle.faults.specs.declared.Modes.{Modes}
use Rattle.faults.specs.declared.Faults.{Faults}

abbrev pub nothing : Faults
nothing = record { sum = 0 }

-- a flaw with the value v beside those noted before, if it was met
abbrev pub marked : Faults → Bool → ℕ → Faults
marked g true v = record { sum = bit_or g.sum v }
marked g false v = g

-- it is asked for
abbrev pub asks : Modes → Flaw → Bool
asks m f = cond (eqb (mode_of f) names_mode) m.names m.format

-- these flaws beside those noted before, of what is asked
unfoldable pub noted : Modes → Faults → List Flaw → Faults
noted m g [] = g
noted m g (f ∷ fs) = noted m (marked g (asks m f) (flaw_value f)) fs

abbrev pub is_noted : Flaw → Faults → Bool
is_noted f g = eqb (g.sum / flaw_value f % 2) 1

abbrev pub sum_in : Faults → ℕ
sum_in g = g.sum

abbrev pub flaw_if : Bool → Flaw → List Flaw
flaw_if true f = f ∷ []
flaw_if false f = []
