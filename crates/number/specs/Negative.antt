-- A negative number as 64 bits hold it (document 01, "Kinds and payloads").
use Rattle.std.specs.Prelude.{ℕ, ◌^◌, cond, ltb, ℤ, Option, Some, None}
use Rattle.number.specs.Signed.{minus_plus_one}

-- minus (M plus 1), down to -2^63; none below
abbrev pub negative : ℕ → Option ℤ
negative m = cond (ltb m (2 ^ 63)) (Some (minus_plus_one m)) None
