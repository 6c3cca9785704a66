-- What a checked field is told as tells its parts.
use mathlib.Core.Path.{◌≡◌, refl, subst}
use Rattle.std.specs.Prelude.{Result, Ok, Err}
use Rattle.format.specs.declared.Stop.{Stop}
use Rattle.contents.specs.declared.Field.{Field}

abbrev Same : Field → Result Field Stop → Type 0
Same p (Err j) = Unit {0}
Same p (Ok q) = (p.kind ≡ q.kind) × (p.end ≡ q.end) × (p.faults ≡ q.faults)

pub field_same : (p : Field) (x : Result Field Stop) → Ok p ≡ x → Same p x
field_same p x e = subst (Same p) e (refl, refl, refl)
