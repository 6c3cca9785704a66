-- The float rule, by bits (document 01, "The mask").
use Rattle.std.specs.Prelude.{ℕ, ◌+◌, ◌-◌, ◌/◌, ◌%◌, ◌^◌, Bool, ◌&&◌, ◌||◌, cond, eqb, leb}

-- the exponent field and the fraction of a Float64
abbrev pub exponent : ℕ → ℕ
exponent b = b / 2 ^ 52 % 2 ^ 11

abbrev pub fraction : ℕ → ℕ
fraction b = b % 2 ^ 52

-- 2 to this power has to divide 2^52 + f
abbrev pub spare : ℕ → ℕ
spare e = cond (leb 897 e) 29 (926 - e)

abbrev pub holds_at : ℕ → ℕ → Bool
holds_at e f = (eqb f 0 && (eqb e 0 || eqb e 2047)) || ((leb 874 e && leb e 1150) && eqb ((2 ^ 52 + f) % 2 ^ spare e) 0)

-- Float32 holds this Float64
unfoldable pub holds : ℕ → Bool
holds b = holds_at (exponent b) (fraction b)
