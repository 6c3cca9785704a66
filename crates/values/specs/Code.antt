-- What the code answers inside, of the definitions of values. Nothing here has to be believed: no public contract names it.
use Rattle.std.specs.Prelude.{ℕ, Bool, true, false, cond, List, eqb, ℤ, pos, negsuc, Option, None, Some, Result, Err, Ok}
use Rattle.number.specs.VarUInt.{var_uint, number_then}
use Rattle.number.specs.Fixed.{fixed32, fixed64}
use Rattle.number.specs.Signed.{from_twos}
use Rattle.number.specs.declared.VarUInt.{VarUInt}
use Rattle.number.specs.declared.Cut.{Cut}
use Rattle.float.specs.Width.{widen}
use Rattle.format.specs.declared.Stop.{Stop}
use Rattle.format.specs.Parse.{Out, fault, got}
use Rattle.format.specs.Payload.{Head, value, fields_in, items_in}
use Rattle.places.specs.Values.{Sort, whole, real, time, other, sort_of, float_bits}
use Rattle.values.specs.declared.Value.{Value}
use Rattle.values.specs.declared.Value.TheVariants as Va

abbrev pub value_by : Sort → Option Value
value_by (whole (pos m)) = Some (Va.Positive m)
value_by (whole (negsuc m)) = Some (Va.Negative m)
value_by (real x) = Some (Va.Real (float_bits x))
value_by (time z) = Some (Va.Time z)
value_by other = None

abbrev pub value_of : Out Head → Result (Option Value) Stop
value_of (fault k) = Err k
value_of (got (value v) fs r) = Ok (value_by (sort_of v))
value_of (got (fields_in f b) fs r) = Ok None
value_of (got (items_in f n b) fs r) = Ok None

-- the integer of an M and a sign
abbrev pub integer_of : Bool → ℕ → ℤ
integer_of true m = negsuc m
integer_of false m = pos m

-- of a payload's bytes
abbrev pub integer_by : Bool → ℕ → Option Value
integer_by true m = Some (Va.Negative m)
integer_by false m = Some (Va.Positive m)

abbrev pub integer_in : Bool → Result VarUInt Cut → Option Value
integer_in t = number_then None (λ v n m. integer_by t v)

abbrev pub float32_in : Option ℕ → Option Value
float32_in None = None
float32_in (Some b) = Some (Va.Real (widen b))

abbrev pub float64_in : Option ℕ → Option Value
float64_in None = None
float64_in (Some b) = Some (Va.Real b)

abbrev pub time_in : Option ℕ → Option Value
time_in None = None
time_in (Some b) = Some (Va.Time (from_twos b))

abbrev pub value_in : ℕ → List ℕ → Option Value
value_in n s =
    cond (eqb n 0x08) (integer_in false (var_uint s))
    (cond (eqb n 0x09) (integer_in true (var_uint s))
    (cond (eqb n 0x0a) (float32_in (fixed32 s))
    (cond (eqb n 0x0b) (float64_in (fixed64 s))
    (cond (eqb n 0x12) (time_in (fixed64 s))
    (cond (eqb n 0x13) (time_in (fixed64 s))
    None)))))
