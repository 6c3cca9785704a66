-- The values of leaves (document 01, "Places, views and values").
use Rattle.std.specs.Prelude.{ℕ, ◌^◌, cond, List, ltb, ℤ, pos, negsuc, Result, Err, Ok}
use Rattle.float.specs.Width.{widen, is_exact, of_integer}
use Rattle.format.specs.declared.Stop.{Stop}
use Rattle.places.specs.declared.Place.{Place}
use Rattle.format.specs.Parse.{Out, fault, got}
use Rattle.format.specs.Tree.{Float, number, nan32, nan64, Leaf, null, bool, integer, float, binary, string, object_attachment, binary_attachment, hash, uuid}
use Rattle.format.specs.Tree.{object_id, date_time, time_span, custom_by_id, custom_by_name}
use Rattle.format.specs.Payload.{Head, value, fields_in, items_in}
use Rattle.places.specs.Places.{check}
use Rattle.places.specs.declared.ValueError.{ValueError}
use Rattle.places.specs.declared.ValueError.TheVariants as V
use Rattle.places.specs.declared.PlaceError.{PlaceError}
use Rattle.places.specs.declared.PlaceError.TheVariants as P

-- what a leaf is to a call on values
pub data Sort : Type 0 where
  whole : ℤ → Sort
  real : Float → Sort
  time : ℤ → Sort
  other : Sort

abbrev pub sort_of : Leaf → Sort
sort_of null = other
sort_of (bool b) = other
sort_of (integer z) = whole z
sort_of (float x) = real x
sort_of (binary s) = other
sort_of (string s) = other
sort_of (object_attachment s) = other
sort_of (binary_attachment s) = other
sort_of (hash s) = other
sort_of (uuid s) = other
sort_of (object_id s) = other
sort_of (date_time z) = time z
sort_of (time_span z) = time z
sort_of (custom_by_id n s) = other
sort_of (custom_by_name n s) = other

-- a fault of the place, or the answer for its leaf
abbrev pub answer_by : {A : Type 0} → (Stop → A) → (Sort → A) → Out Head → A
answer_by f g (fault k) = f k
answer_by f g (got (value v) fs r) = g (sort_of v)
answer_by f g (got (fields_in o b) fs r) = g other
answer_by f g (got (items_in o n b) fs r) = g other

-- ---- a number as a double, by its 64 bits

abbrev pub float_bits : Float → ℕ
float_bits (number b) = b
float_bits (nan32 b) = widen b
float_bits (nan64 b) = b

abbrev pub double_of : Sort → Result ℕ ValueError
double_of (whole z) = cond (is_exact z) (Ok (of_integer z)) (Err V.OutOfRange)
double_of (real x) = Ok (float_bits x)
double_of (time z) = Err V.WrongKind
double_of other = Err V.WrongKind

unfoldable pub double : List ℕ → Place → Result ℕ ValueError
double s p = answer_by (λ k. Err (V.Fault k)) double_of (check s p)

-- ---- an integer, signed: from -2^63 to 2^63 - 1

abbrev pub signed_whole : ℤ → Result ℤ ValueError
signed_whole (pos n) = cond (ltb n (2 ^ 63)) (Ok (pos n)) (Err V.OutOfRange)
signed_whole (negsuc n) = cond (ltb n (2 ^ 63)) (Ok (negsuc n)) (Err V.OutOfRange)

abbrev pub signed_of : Sort → Result ℤ ValueError
signed_of (whole z) = signed_whole z
signed_of (real x) = Err V.WrongKind
signed_of (time z) = Err V.WrongKind
signed_of other = Err V.WrongKind

unfoldable pub signed : List ℕ → Place → Result ℤ ValueError
signed s p = answer_by (λ k. Err (V.Fault k)) signed_of (check s p)

-- ---- an integer, unsigned

abbrev pub unsigned_whole : ℤ → Result ℕ ValueError
unsigned_whole (pos n) = Ok n
unsigned_whole (negsuc n) = Err V.OutOfRange

abbrev pub unsigned_of : Sort → Result ℕ ValueError
unsigned_of (whole z) = unsigned_whole z
unsigned_of (real x) = Err V.WrongKind
unsigned_of (time z) = Err V.WrongKind
unsigned_of other = Err V.WrongKind

unfoldable pub unsigned : List ℕ → Place → Result ℕ ValueError
unsigned s p = answer_by (λ k. Err (V.Fault k)) unsigned_of (check s p)

-- ---- ticks, from 12 or 13 only

abbrev pub ticks_of : Sort → Result ℤ PlaceError
ticks_of (whole z) = Err P.WrongKind
ticks_of (real x) = Err P.WrongKind
ticks_of (time z) = Ok z
ticks_of other = Err P.WrongKind

unfoldable pub ticks : List ℕ → Place → Result ℤ PlaceError
ticks s p = answer_by (λ k. Err (P.Fault k)) ticks_of (check s p)
