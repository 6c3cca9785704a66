-- The VarUInt (document 01, "Numbers and the VarUInt").
use Rattle.std.specs.Prelude.{ℕ, suc, ◌+◌, ◌-◌, ◌/◌, ◌^◌, Bool, cond, List, [], ◌∷◌, length, take, get_or, ltb, leb, Result, Ok, Err}
use Rattle.number.specs.BigEndian.{behind, to_bytes}
use Rattle.number.specs.declared.VarUInt.{VarUInt}
use Rattle.number.specs.declared.Cut.{Cut}

-- how many of the bounds, in order, are reached
abbrev pub reached : List ℕ → ℕ → ℕ
reached [] b = 0
reached (t ∷ ts) b = cond (ltb b t) 0 (suc (reached ts b))

-- n leading one bits and then zeros, n from 1 to 8: the least byte with n leading one bits
abbrev pub leads : List ℕ
leads = 0x80 ∷ 0xc0 ∷ 0xe0 ∷ 0xf0 ∷ 0xf8 ∷ 0xfc ∷ 0xfe ∷ 0xff ∷ []

abbrev pub lead : ℕ → ℕ
lead n = get_or (0 ∷ leads) n 0

-- n bytes hold what is below 2 ^ (7 * n), n from 1 to 8
abbrev pub bounds : List ℕ
bounds = 2 ^ 7 ∷ 2 ^ 14 ∷ 2 ^ 21 ∷ 2 ^ 28 ∷ 2 ^ 35 ∷ 2 ^ 42 ∷ 2 ^ 49 ∷ 2 ^ 56 ∷ []

-- the least number that n bytes do not hold, and 0 for no byte
abbrev pub bound : ℕ → ℕ
bound n = get_or (0 ∷ bounds) n 0

-- the number of leading one bits: how many bytes follow
abbrev pub following : ℕ → ℕ
following b = reached leads b

-- n bytes follow b: its rest and they make the value
abbrev pub value_of : ℕ → ℕ → List ℕ → ℕ
value_of n b s = behind (b - lead n) (take n s)

-- the part cuts the number off: how many bytes are missing
abbrev pub cut : ℕ → Result VarUInt Cut
cut n = Err (record { missing = n })

-- a number that is all there: its value, how many bytes it takes, and whether no shorter form holds the value
abbrev pub whole : ℕ → ℕ → Bool → Result VarUInt Cut
whole v n x = Ok (record { value = v; length = n; minimal = x })

-- n bytes have to follow b: cut, and how many of them are missing; or whole
abbrev pub answer : ℕ → ℕ → List ℕ → Result VarUInt Cut
answer n b s = cond (ltb (length s) n) (cut (n - length s)) (whole (value_of n b s) (suc n) (leb (bound n) (value_of n b s)))

-- what stands at the front. Where nothing stands, one byte is missing: the first, which tells how many follow
unfoldable pub var_uint : List ℕ → Result VarUInt Cut
var_uint [] = cut 1
var_uint (b ∷ s) = answer (following b) b s

-- for callers to whom every cut is the same: what is made of one, however many bytes are missing; and of a value, its length and whether that is minimal
abbrev pub number_then : {B : Type 0} → B → (ℕ → ℕ → Bool → B) → Result VarUInt Cut → B
number_then halt go (Ok n) = go n.value n.length n.minimal
number_then halt go (Err c) = halt

-- the form with n bytes behind the first
abbrev pub form : ℕ → ℕ → List ℕ
form n v = (lead n + v / 256 ^ n) ∷ to_bytes n v

-- the minimal form
unfoldable pub encoded : ℕ → List ℕ
encoded v = form (reached bounds v) v
