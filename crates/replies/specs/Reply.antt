-- Answers in numbers: the number of the case (document 01's for a fault), and its values.
use Rattle.std.specs.Prelude.{ℕ, cond, List, [], ◌∷◌, length, ltb, Ok, Result, Err, ℤ}
use Rattle.std.proofs.lemmas.List.Edits.{sets}
use Rattle.number.specs.Signed.{to_twos}
use Rattle.number.specs.VarUInt.{var_uint}
use Rattle.places.specs.declared.PlaceError.{PlaceError}
use Rattle.places.specs.declared.PlaceError.TheVariants as P
use Rattle.places.specs.declared.ValueError.{ValueError}
use Rattle.places.specs.declared.ValueError.TheVariants as V
use Rattle.format.specs.Mask.{stop_value}
use Rattle.replies.specs.Number.{truth, too_few, Afterwards, afterwards}
use Rattle.number.specs.declared.VarUInt.{VarUInt}
use Rattle.number.specs.declared.Cut.{Cut}

pub record Reply : Type 0 where
  pub code : ℕ
  pub values : List ℕ

abbrev pub given : List ℕ → Reply
given vs = record { code = 0; values = vs }

abbrev pub only : ℕ → Reply
only n = record { code = n; values = [] }

-- no mask has these numbers
abbrev pub no_more : ℕ
no_more = 3

abbrev pub not_there : ℕ
not_there = 5

abbrev pub wrong_kind : ℕ
wrong_kind = 6

abbrev pub out_of_range : ℕ
out_of_range = 7

-- the values stand at the front of the lent numbers. Whatever the answer is, n of these are asked for
abbrev pub told : ℕ → Reply → List ℕ → Afterwards
told n r l = cond (ltb (length l) n) (afterwards too_few l) (afterwards r.code (sets l 0 r.values))

-- values that are given, or the number of what refuses them
abbrev pub values_reply : Result (List ℕ) ℕ → Reply
values_reply (Ok vs) = given vs
values_reply (Err n) = only n

abbrev pub place_code : PlaceError → ℕ
place_code P.WrongKind = wrong_kind
place_code (P.Fault k) = stop_value k

abbrev pub value_code : ValueError → ℕ
value_code V.OutOfRange = out_of_range
value_code V.WrongKind = wrong_kind
value_code (V.Fault k) = stop_value k

-- ---- each answer

-- a cut one is told by 1, as bytes that end early are, and by how many are missing
abbrev pub varuint_reply : Result VarUInt Cut → Reply
varuint_reply (Ok w) = given (w.value ∷ w.length ∷ truth w.minimal ∷ [])
varuint_reply (Err c) = record { code = 1; values = c.missing ∷ [] }

-- three numbers are asked for, whatever the part holds
abbrev pub varuint : List ℕ → List ℕ → Afterwards
varuint s l = told 3 (varuint_reply (var_uint s)) l

-- an unsigned number, or a double by its bits
abbrev pub number_reply : Result ℕ ValueError → Reply
number_reply (Ok n) = given (n ∷ [])
number_reply (Err e) = only (value_code e)

-- signed numbers in two's complement
abbrev pub signed_reply : Result ℤ ValueError → Reply
signed_reply (Ok z) = given (to_twos z ∷ [])
signed_reply (Err e) = only (value_code e)

abbrev pub ticks_reply : Result ℤ PlaceError → Reply
ticks_reply (Ok z) = given (to_twos z ∷ [])
ticks_reply (Err e) = only (place_code e)
