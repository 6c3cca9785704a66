-- A refusal and its place, as an answer, tell both, and are no success.
use Rattle.std.specs.Prelude.{ℕ, ◌≡◌, Result, Ok, Err}
use mathlib.Core.Path.{ap}
use Rattle.frames.specs.declared.Refusal.{Refusal}
use Rattle.frames.specs.declared.Refusal.TheVariants.{ListEnds}
use Rattle.frames.specs.declared.Refused.{Refused}
use Rattle.frames.specs.Writer.{refused_at}

abbrev refusal_of : {A : Type 0} → Result A Refused → Refusal
refusal_of (Ok a) = ListEnds
refusal_of (Err q) = q.refusal

abbrev place_of : {A : Type 0} → Result A Refused → ℕ
place_of (Ok a) = 0
place_of (Err q) = q.place

pub refused_same : {A : Type 0} {n r : Refusal} {q p : ℕ} → refused_at {A = A} n q ≡ refused_at {A = A} r p → (n ≡ r) × (q ≡ p)
refused_same e = (ap refusal_of e, ap place_of e)
