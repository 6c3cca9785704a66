-- The first twin object by object, in any order: the earliest of what each object has.
use Rattle.std.specs.Prelude.{ℕ, ◌≡◌, true, false, cond, List, [], ◌∷◌, eqb}
use Rattle.std.proofs.Math.Option.{Option, none}
use Rattle.number.specs.BigEndian.{All}
use Rattle.format.specs.Kinds.{any}
use Rattle.twins.specs.Events.{Event, first_twin}
use Rattle.twins.specs.Least.{earlier}

-- the events of the object at k
abbrev pub of_object : ℕ → List Event → List Event
of_object k [] = []
of_object k (e ∷ es) = cond (eqb k e.object) (e ∷ of_object k es) (of_object k es)

abbrev pub least_over : List ℕ → List Event → Option (List ℕ)
least_over [] es = none
least_over (k ∷ ks) es = earlier (first_twin [] (of_object k es)) (least_over ks es)

-- every object of the events is among ks
abbrev pub Covers : List ℕ → List Event → Type 0
Covers ks es = All (λ e. any (λ k. eqb k e.object) ks ≡ true) es

-- no object stands there twice
abbrev pub Distinct : List ℕ → Type 0
Distinct [] = Unit {0}
Distinct (k ∷ ks) = All (λ j. eqb j k ≡ false) ks × Distinct ks
