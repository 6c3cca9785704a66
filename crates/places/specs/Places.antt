-- Places, steps, views and lookup (document 01, "Places, views and values"). A place may be forged: each call checks it first.
use Rattle.std.specs.Prelude.{ℕ, zero, suc, ◌+◌, ◌-◌, true, false, ◌||◌, cond, List, [], length, eqb, ltb, Option, None, Some, Result, Err, Ok}
use Rattle.std.proofs.Math.Seq.{slice}
use Rattle.number.specs.VarUInt.{var_uint, number_then}
use Rattle.text.specs.Equal.{equal}
use Rattle.format.specs.declared.Kind.{Kind}
use Rattle.format.specs.declared.Form.{Form}
use Rattle.format.specs.declared.Form.TheVariants as Fo
use Rattle.format.specs.declared.Stop.{Stop}
use Rattle.format.specs.declared.Stop.TheVariants.{Early, TooDeep, TooLong}
use Rattle.format.specs.declared.Stop.TheVariants as S
use Rattle.places.specs.declared.Place.{Place}
use Rattle.places.specs.declared.Part.{Part}
use Rattle.places.specs.Made.{part_at, step_met}
use Rattle.format.specs.Limits.{depth_limit, length_limit}
use Rattle.format.specs.Kinds.{id, known, has_size}
use Rattle.format.specs.Parse.{Out, fault, got, bind, whole}
use Rattle.format.specs.Payload.{Head, value, fields_in, items_in, front, head}
use Rattle.number.specs.declared.VarUInt.{VarUInt}
use Rattle.number.specs.declared.Cut.{Cut}
use Rattle.places.specs.declared.PlaceError.TheVariants.{Fault, WrongKind}
use Rattle.places.specs.declared.Field.{Field}
use Rattle.places.specs.declared.PlaceError.{PlaceError}

-- ---- the check of a place, in its order. Its answer is the payload up to the contents

abbrev pub payload_at : Option Kind → List ℕ → Out Head
payload_at None s = fault S.Unknown
payload_at (Some k) s = whole (head k s) []

unfoldable pub check : List ℕ → Place → Out Head
check s p =
    cond (ltb length_limit (length s)) (fault TooLong)
    (cond (ltb p.end p.start || ltb (length s) p.end) (fault Early)
    (cond (eqb p.depth 0 || ltb depth_limit p.depth) (fault TooDeep)
    (payload_at (known p.kind) (slice p.start p.end s))))

abbrev pub checked_of : Out Head → Result (Unit {0}) Stop
checked_of (fault k) = Err k
checked_of (got h fs r) = Ok tt

unfoldable pub checked : List ℕ → Place → Result (Unit {0}) Stop
checked s p = checked_of (check s p)

-- ---- a place: every one is made here

abbrev pub place_with : ℕ → ℕ → ℕ → ℕ → Place
place_with i a e d = record { kind = i; start = a; end = e; depth = d }

-- ---- a field met at a depth, up to its contents. The bytes at hand end at e, so what is left of them, r, starts at e - length r

abbrev pub place_of : ℕ → ℕ → Kind → List ℕ → List ℕ → Place
place_of depth e k s r = place_with (id k) (e - length s) (e - length r) depth

-- its name and its place
abbrev pub met : ℕ → ℕ → Form → List ℕ → Out (List ℕ × Place)
met depth e f s = bind (front f s) λ x r. bind (head x.1 r) λ h q. got (x.0, place_of depth e x.1 r q) [] q

unfoldable pub meet : ℕ → ℕ → Form → List ℕ → Out (List ℕ × Place)
meet depth e f s = cond (ltb depth_limit depth) (fault TooDeep) (met depth e f s)

-- ---- the top place: read at byte 0 as a step reads a field, with depth 1

abbrev pub top_of : Out (List ℕ × Place) → Result Place Stop
top_of (fault k) = Err k
top_of (got x fs r) = Ok x.1

unfoldable pub top : List ℕ → Result Place Stop
top s = cond (ltb length_limit (length s)) (Err TooLong) (top_of (meet 1 (length s) Fo.Top s))

-- ---- a step

-- the name ends where the payload starts
abbrev pub step_of : Out (List ℕ × Place) → Result (Option Field) PlaceError
step_of (fault k) = Err (Fault k)
step_of (got x fs r) = step_met x.1 (x.1.start - length x.0)

-- of the last place only the end counts
abbrev pub from : ℕ → Option Place → ℕ
from at None = at
from at (Some p) = p.end

-- the next field at `at`, in contents that stand from `begin` to the end of c
abbrev pub step_in : List ℕ → Place → Form → ℕ → ℕ → Result (Option Field) PlaceError
step_in s c f begin at =
    cond (ltb at begin || ltb c.end at) (Err (Fault Early))
    (cond (eqb at c.end) (Ok None)
    (step_of (meet (c.depth + 1) c.end f (slice at c.end s))))

abbrev pub step_from : List ℕ → Place → Option Place → Out Head → Result (Option Field) PlaceError
step_from s c l (fault k) = Err (Fault k)
step_from s c l (got (value v) fs r) = Err WrongKind
step_from s c l (got (fields_in f b) fs r) = step_in s c f (c.end - length b) (from (c.end - length b) l)
step_from s c l (got (items_in f n b) fs r) = step_in s c f (c.end - length b) (from (c.end - length b) l)

unfoldable pub step : List ℕ → Place → Option Place → Result (Option Field) PlaceError
step s c l = step_from s c l (check s c)

-- ---- views: parts of the caller's payload; a refused view is empty

-- the name that a step meets
abbrev pub name_in : List ℕ → Result (Option Field) PlaceError → List ℕ
name_in s (Ok (Some x)) = slice x.name x.place.start s
name_in s (Ok None) = []
name_in s (Err WrongKind) = []
name_in s (Err (Fault k)) = []

unfoldable pub name_view : List ℕ → Place → Option Place → List ℕ
name_view s c l = name_in s (step s c l)

-- how many bytes the size takes, if there is one
abbrev pub taken : Result VarUInt Cut → ℕ
taken = number_then 0 (λ v n m. n)

abbrev pub size_length : Option Kind → List ℕ → ℕ
size_length None s = 0
size_length (Some k) s = cond (has_size k) (taken (var_uint s)) 0

-- a place's payload after its size if it has one
abbrev pub part_of : List ℕ → Place → Out Head → Result Part Stop
part_of s p (fault k) = Err k
part_of s p (got h fs r) = part_at (p.start + size_length (known p.kind) (slice p.start p.end s)) p.end

unfoldable pub part : List ℕ → Place → Result Part Stop
part s p = part_of s p (check s p)

abbrev pub view_of : List ℕ → Result Part Stop → List ℕ
view_of s (Ok p) = slice p.begin p.end s
view_of s (Err k) = []

unfoldable pub view : List ℕ → Place → List ℕ
view s p = view_of s (part s p)

-- ---- lookup: steps to the first field byte-equal to the name m

-- `more` looks on behind a field of another name
abbrev pub look_at : List ℕ → List ℕ → (Place → Result (Option Place) PlaceError) → Result (Option Field) PlaceError → Result (Option Place) PlaceError
look_at s m more (Ok (Some x)) = elim (equal (slice x.name x.place.start s) m) [ true ↦ Ok (Some x.place) | false ↦ more x.place ]
look_at s m more (Ok None) = Ok None
look_at s m more (Err WrongKind) = Err WrongKind
look_at s m more (Err (Fault k)) = Err (Fault k)

-- the number bounds the steps, and the container's end is enough
abbrev pub look_from : ℕ → List ℕ → Place → List ℕ → Option Place → Result (Option Place) PlaceError
look_from zero s c m l = Ok None
look_from (suc n) s c m l = look_at s m (λ p. look_from n s c m (Some p)) (step s c l)

abbrev pub look_in : List ℕ → Place → List ℕ → Out Head → Result (Option Place) PlaceError
look_in s c m (fault k) = Err (Fault k)
look_in s c m (got (value v) fs r) = Err WrongKind
look_in s c m (got (items_in f n b) fs r) = Err WrongKind
look_in s c m (got (fields_in f b) fs r) = look_from (suc c.end) s c m None

unfoldable pub lookup : List ℕ → Place → List ℕ → Result (Option Place) PlaceError
lookup s c m = look_in s c m (check s c)
