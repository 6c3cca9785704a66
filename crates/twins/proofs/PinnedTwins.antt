-- Short write lists, evaluated: the first twin in the order of reading, the first by structure, and what the strict reader says (document 01, "The write
-- list"). 02 opens an object, 04 an array, 00 closes; 01 is null, 08 a number; 61 and 62 are the names a and b.
use Prim.Native.Nat.{ℕ}
use mathlib.Core.Path.{◌≡◌, refl}
use mathlib.Core.Bool.{true}
use mathlib.Core.Option.{Option, none, some}
use mathlib.Core.List.{List, [], ◌∷◌, ◌++◌, map}
use lib.ListN.{length}
use Rattle.number.specs.BigEndian.{to_bytes}
use Rattle.number.specs.VarUInt.{var_uint}
use Rattle.text.specs.Utf8.{is_text, due}
use Rattle.text.specs.Equal.{equal}
use Rattle.format.specs.Kinds.{known}
use Rattle.format.specs.Parse.{read_var_uint}
use Rattle.format.specs.Names.{is_empty}
use Rattle.format.specs.Payload.{payload}
use Rattle.frames.specs.WriteList.{Frames, refused, framed, until_close, read_frames, read_list}
use Rattle.frames.specs.Writer.{refusal_number}
use Rattle.twins.specs.Lax.{lax, lax_list}
use Rattle.twins.specs.Events.{Event, events, events_of, first_twin, past, decide}
use Rattle.twins.specs.Least.{own_of, least_twin, least_twin_of}
use Rattle.twins.specs.Over.{least_over}
use Rattle.twins.specs.Table.{first_met}
use Rattle.twins.specs.Walk.{left_of, pass_over, walked}

-- a refusal's number, or 0; and what of the list is left
abbrev told : {A : Type 0} → Frames A → List ℕ
told (refused n r) = refusal_number n ∷ r
told (framed t r) = 0 ∷ r

-- a list of n bytes, as one number
abbrev of : ℕ → ℕ → List ℕ
of n v = to_bytes n v

-- a list and the levels that it is read with: the first twin in the order of reading and by structure; what the lax reader says, what is decided of both,
-- and what the strict reader says
pub record Row : Type 0 where
  pub levels : ℕ
  pub list : List ℕ
  pub first : Option (List ℕ)
  pub least : Option (List ℕ)
  pub lax : List ℕ
  pub decided : List ℕ
  pub strict : List ℕ

-- the first twin stands where `left` begins, and is refused with 4, whatever the lax reader says
abbrev twin : ℕ → List ℕ → List ℕ → List ℕ → Row
twin d before left says =
    record { levels = d; list = before ++ left; first = some left; least = some left; lax = says; decided = 4 ∷ left; strict = 4 ∷ left }

-- there is none: the list is read (0), or refused where `left` begins
abbrev without : ℕ → ℕ → List ℕ → List ℕ → Row
without d n before left =
    record { levels = d; list = before ++ left; first = none; least = none; lax = n ∷ left; decided = n ∷ left; strict = n ∷ left }

abbrev pub pinned : List Row
pinned =
    -- two names; names that differ in a letter's case
    without 32 0 (of 8 0x0201016101016200) [] ∷ without 32 0 (of 8 0x0201016101014100) []
    -- an equal name in an inner object, in two inner objects, in two objects of an array
    ∷ without 32 0 (of 9 0x020201610101610000) [] ∷ without 32 0 (of 16 0x02020161010163000201620101630000) []
    ∷ without 32 0 (of 12 0x040201016100020101610000) []
    -- in the top object; the second of three; behind another name; in an array's object; the pair that is met first, not the one that begins first
    ∷ twin 32 (of 4 0x02010161) (of 4 0x01016100) (0 ∷ []) ∷ twin 32 (of 4 0x02010161) (of 7 0x01016101016100) (0 ∷ [])
    ∷ twin 32 (of 7 0x02010161010162) (of 4 0x01016100) (0 ∷ []) ∷ twin 32 (of 5 0x0402010161) (of 5 0x0101610000) (0 ∷ [])
    ∷ twin 32 (of 7 0x02010161010162) (of 7 0x01016201016100) (0 ∷ [])
    -- in an inner object before one in the outer, and the other way round; in the first of two inner objects
    ∷ twin 32 (of 7 0x02020161010162) (of 8 0x0101620001016100) (0 ∷ []) ∷ twin 32 (of 4 0x02010161) (of 11 0x0201610101620101620000) (0 ∷ [])
    ∷ twin 32 (of 7 0x02020161010162) (of 15 0x010162000201620101620101620000) (0 ∷ [])
    -- an outer one behind an inner object that has the name too
    ∷ twin 32 (of 8 0x0202016101016100) (of 4 0x01016100) (0 ∷ [])
    -- its frame is faulty behind its name: cut, no text, an inner frame of a bad kind
    ∷ twin 32 (of 4 0x02010161) (of 3 0x080161) (2 ∷ of 3 0x080161) ∷ twin 32 (of 4 0x02010161) (of 5 0x07016101c3) (5 ∷ of 5 0x07016101c3)
    ∷ twin 32 (of 4 0x02010161) (of 4 0x04016115) (2 ∷ of 1 0x15)
    -- such a frame with another name
    ∷ without 32 2 (of 4 0x02010161) (of 3 0x080162) ∷ without 32 5 (of 4 0x02010161) (of 5 0x07016201c3)
    ∷ without 32 2 (of 7 0x02010161040162) (of 1 0x15)
    -- the list ends behind it, goes on behind the top field, or has a faulty frame later
    ∷ twin 32 (of 4 0x02010161) (of 3 0x010161) (1 ∷ []) ∷ twin 32 (of 4 0x02010161) (of 5 0x0101610001) (8 ∷ of 1 0x01)
    ∷ twin 32 (of 4 0x02010161) (of 4 0x01016115) (2 ∷ of 1 0x15)
    -- without it, that is told
    ∷ without 32 1 (of 7 0x02010161010162) [] ∷ without 32 8 (of 8 0x0201016101016200) (of 1 0x01) ∷ without 32 2 (of 7 0x02010161010162) (of 1 0x15)
    -- a faulty frame before it: a bad kind, a bad kind with the name, an empty name, a name that is no text, a cut one
    ∷ without 32 2 (of 4 0x02010161) (of 5 0x1501016100) ∷ without 32 2 (of 4 0x02010161) (of 7 0x15016101016100)
    ∷ without 32 3 (of 4 0x02010161) (of 6 0x010001016100) ∷ without 32 5 (of 4 0x02010161) (of 7 0x0101c301016100)
    ∷ without 32 2 (of 4 0x02010161) (of 3 0x010261)
    -- too deep comes before the name
    ∷ without 1 6 (of 1 0x02) (of 7 0x01016101016100) ∷ twin 2 (of 4 0x02010161) (of 4 0x01016100) (0 ∷ [])
    ∷ without 2 6 (of 4 0x02020161) (of 12 0x010162010162000101610000) ∷ twin 3 (of 7 0x02020161010162) (of 8 0x0101620001016100) (0 ∷ [])
    -- no frame, a close with nothing open, a leaf, an array of leaves
    ∷ without 32 1 [] [] ∷ without 32 7 [] (of 1 0x00) ∷ without 32 0 (of 1 0x01) [] ∷ without 32 0 (of 4 0x04010100) []
    ∷ []

abbrev computed : Row → Row
computed x = record {
  levels = x.levels;
  list = x.list;
  first = first_twin [] (events_of x.levels x.list);
  least = least_twin_of x.levels x.list;
  lax = told (lax_list x.levels x.list);
  decided = told (decide (first_twin [] (events_of x.levels x.list)) (lax_list x.levels x.list));
  strict = told (read_list x.levels x.list);
}

pub twins_pinned : map computed pinned ≡ pinned
unfolding var_uint is_text due equal known read_var_uint is_empty payload read_frames read_list lax lax_list events events_of first_twin own_of least_twin least_twin_of
twins_pinned = refl

-- ---- the same by other ways: {a: {b: null, b: null}, a: null}

abbrev nested : List ℕ
nested = of 15 0x020201610101620101620001016100

abbrev event : ℕ → List ℕ → List ℕ → Event
event k f n = record { object = k; from = f; name = n }

-- 14 bytes are left where the top object's fields begin, 11 where those of the inner one do
pub events_pinned : events_of 32 nested
    ≡ event 14 (of 14 0x0201610101620101620001016100) (of 1 0x61)
    ∷ event 11 (of 11 0x0101620101620001016100) (of 1 0x62)
    ∷ event 11 (of 8 0x0101620001016100) (of 1 0x62)
    ∷ event 14 (of 4 0x01016100) (of 1 0x61)
    ∷ []
unfolding var_uint is_text due equal known read_var_uint is_empty payload lax events events_of
events_pinned = refl

-- both objects in either order; the outer alone has a later one
pub over_pinned : map (λ ks. least_over ks (events_of 32 nested)) ((11 ∷ 14 ∷ []) ∷ (14 ∷ 11 ∷ []) ∷ (14 ∷ []) ∷ [])
    ≡ some (of 8 0x0101620001016100) ∷ some (of 8 0x0101620001016100) ∷ some (of 4 0x01016100) ∷ []
unfolding var_uint is_text due equal known read_var_uint is_empty payload lax events events_of first_twin
over_pinned = refl

-- a table of the frames named a and b: of three later ones the second is in it, and the third
pub table_pinned : first_met (past [] (event 20 (of 5 0) (of 1 0x61) ∷ event 20 (of 4 0) (of 1 0x62) ∷ []))
    (event 20 (of 3 0) (of 1 0x63) ∷ event 20 (of 2 0) (of 1 0x62) ∷ event 20 (of 1 0) (of 1 0x61) ∷ [])
    ≡ some (of 2 0)
unfolding equal first_met
table_pinned = refl

-- the fields at s, with where the lax reader stops
abbrev walks : List ℕ → List Event
walks s = walked 31 (left_of (until_close (λ u. lax 31 true) (length s) [] s)) s

-- the reader stops behind the object, in which an object or an array stands; at the second frame of an inner object; at the second frame of the object itself,
-- whose number is cut
pub walk_pinned : map walks (of 14 0x0201610101620101620001016100 ∷ of 10 0x04016101010001016200 ∷ of 11 0x0201610101621501016100 ∷ of 6 0x010161080161 ∷ [])
    ≡ (event 14 (of 14 0x0201610101620101620001016100) (of 1 0x61) ∷ event 14 (of 4 0x01016100) (of 1 0x61) ∷ [])
    ∷ (event 10 (of 10 0x04016101010001016200) (of 1 0x61) ∷ event 10 (of 4 0x01016200) (of 1 0x62) ∷ [])
    ∷ (event 11 (of 11 0x0201610101621501016100) (of 1 0x61) ∷ [])
    ∷ (event 6 (of 6 0x010161080161) (of 1 0x61) ∷ event 6 (of 3 0x080161) (of 1 0x61) ∷ [])
    ∷ []
unfolding var_uint is_text due equal known read_var_uint is_empty payload lax own_of pass_over walked
walk_pinned = refl
