-- The ID that all fields of a container have, as one number, and how it is kept field by field. Nothing here has to be believed: proofs/RunLaws.antt
-- shows that it tells what `is_uniform` and `is_uniform_array` (crates/format/specs/Kinds.antt) say of the kinds.
use Rattle.std.specs.Prelude.{ℕ, Bool, false, not, ◌||◌, cond, List, [], ◌∷◌, map, eqb}
use Rattle.format.specs.declared.Kind.{Kind}
use Rattle.format.specs.Kinds.{id, all}

-- 0 if there is none, 255 if they differ
unfoldable pub shared : List ℕ → ℕ
shared [] = 0
shared (i ∷ is) = cond (all (eqb i) is) i 255

abbrev pub run_of : List Kind → ℕ
run_of ks = shared (map id ks)

-- one more
unfoldable pub join : ℕ → ℕ → ℕ
join c i = cond (eqb c 0) i (cond (eqb c i) c 255)

-- an ID that a uniform container may share: `named` is whether it is an object
unfoldable pub uniform : Bool → ℕ → Bool
uniform named c = cond (eqb c 0) false (cond (eqb c 255) false (named || not ((eqb c 1 || eqb c 12) || eqb c 13)))
