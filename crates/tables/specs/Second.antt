-- Where the second of some entries begins, in the order of the part. Each begins at a place of its own; a beginning is below 16777216, as an entry holds it.
use Rattle.std.specs.Prelude.{ℕ, ◌+◌, cond, List, [], ◌∷◌, ltb}
use Rattle.entries.specs.Entry.{begin_in}
use Rattle.entries.specs.Least.{lesser}

-- the lesser of two beginnings; the second, if the first stands before the bound
abbrev pub nearer : ℕ → ℕ → ℕ → ℕ
nearer b bound r = cond (ltb b bound) r (lesser b r)

-- the least beginning from a bound on; 16777216 if there is none
unfoldable pub smallest : ℕ → List ℕ → ℕ
smallest bound [] = 16777216
smallest bound (x ∷ t) = nearer (begin_in x) bound (smallest bound t)

-- the least beginning behind the least; 16777216 if there is none
unfoldable pub second : List ℕ → ℕ
second t = smallest (smallest 0 t + 1) t
