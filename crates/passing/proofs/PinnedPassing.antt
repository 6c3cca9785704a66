-- Short parts, evaluated: what is left behind the first frame, the names of all frames, and where the first name stands. 02 opens an object, 04 an array,
-- 00 closes; 01 is null, 08 a number, 07 text; 61, 62 and 63 are the names a, b and c.
use Rattle.std.specs.Prelude.{Option, None}
use Prim.Native.Nat.{ℕ}
use mathlib.Core.Path.{◌≡◌, refl}
use mathlib.Core.Bool.{true, false}
use mathlib.Core.Option.{Option as Optional, none, some}
use mathlib.Core.List.{List, [], ◌∷◌, map}
use Rattle.number.specs.BigEndian.{to_bytes}
use Rattle.number.specs.VarUInt.{var_uint}
use Rattle.text.specs.Utf8.{is_text, due}
use Rattle.format.specs.Kinds.{known}
use Rattle.format.specs.Parse.{read_var_uint, fixed}
use Rattle.format.specs.Names.{is_empty}
use Rattle.format.specs.Payload.{payload}
use Rattle.frames.specs.FramePieces.{writable}
use Rattle.passing.specs.Pass.{pass_over}
use Rattle.passing.specs.FrameNames.{name_of, names_until, frame_names, name_at}
use Rattle.names.specs.declared.Name.{Name}
use Rattle.names.specs.Made.{name_met}

-- a list of n bytes, as one number
abbrev of : ℕ → ℕ → List ℕ
of n v = to_bytes n v

abbrev a : List ℕ
a = of 1 0x61

abbrev b : List ℕ
b = of 1 0x62

pub record Row : Type 0 where
  pub levels : ℕ
  pub part : List ℕ
  pub left : Optional (List ℕ)
  pub names : List (List ℕ)
  pub first : Option Name

abbrev row : ℕ → List ℕ → Optional (List ℕ) → List (List ℕ) → Option Name → Row
row d s r ns x = record { levels = d; part = s; left = r; names = ns; first = x }

-- no frame stands there
abbrev nothing : ℕ → List ℕ → Row
nothing d s = row d s none [] None

abbrev pub pinned : List Row
pinned =
    -- null; a number, text and eight bytes before another frame
    row 31 (of 3 0x010161) (some []) (a ∷ []) (name_met 2 3 3)
    ∷ row 31 (of 7 0x08016105010162) (some (of 3 0x010162)) (a ∷ b ∷ []) (name_met 2 3 4)
    ∷ row 31 (of 9 0x070161026869010162) (some (of 3 0x010162)) (a ∷ b ∷ []) (name_met 2 3 6)
    ∷ row 31 (of 14 0x1201610102030405060708010162) (some (of 3 0x010162)) (a ∷ b ∷ []) (name_met 2 3 11)
    -- an object with a name inside, an array, an object in an array, an object in an object; each before another frame
    ∷ row 31 (of 10 0x02016101016300010162) (some (of 3 0x010162)) (a ∷ b ∷ []) (name_met 2 3 7)
    ∷ row 31 (of 10 0x04016101080500010162) (some (of 3 0x010162)) (a ∷ b ∷ []) (name_met 2 3 7)
    ∷ row 31 (of 12 0x040161020101630000010162) (some (of 3 0x010162)) (a ∷ b ∷ []) (name_met 2 3 9)
    ∷ row 31 (of 14 0x0201610201630101620000010162) (some (of 3 0x010162)) (a ∷ b ∷ []) (name_met 2 3 11)
    -- a close behind the frame; at once; the end at once
    ∷ row 31 (of 7 0x01016100010162) (some (of 4 0x00010162)) (a ∷ []) (name_met 2 3 3)
    ∷ nothing 31 (of 4 0x00010161) ∷ nothing 31 []
    -- a cut number, a cut object, a cut object in an array: the frame is the last
    ∷ row 31 (of 3 0x080161) none (a ∷ []) (name_met 2 3 3)
    ∷ row 31 (of 6 0x020161010162) none (a ∷ []) (name_met 2 3 6)
    ∷ row 31 (of 8 0x0401610201016200) none (a ∷ []) (name_met 2 3 8)
    -- a cut name, no name, kinds that are not writable, one of them inside
    ∷ nothing 31 (of 3 0x010261) ∷ nothing 31 (of 1 0x01) ∷ nothing 31 (of 5 0x0301610001) ∷ nothing 31 (of 5 0x0501610001) ∷ nothing 31 (of 3 0x150161)
    ∷ row 31 (of 5 0x0401610300) none (a ∷ []) (name_met 2 3 5)
    -- an empty name, text that is not UTF-8, a number that is not minimal
    ∷ row 31 (of 5 0x0100010162) (some (of 3 0x010162)) ([] ∷ b ∷ []) (name_met 2 2 2)
    ∷ row 31 (of 8 0x07016101c3010162) (some (of 3 0x010162)) (a ∷ b ∷ []) (name_met 2 3 5)
    ∷ row 31 (of 8 0x0801618005010162) (some (of 3 0x010162)) (a ∷ b ∷ []) (name_met 2 3 5)
    -- no level left; one: a leaf, an empty object, an object with a frame; two
    ∷ nothing 0 (of 3 0x010161) ∷ row 1 (of 3 0x010161) (some []) (a ∷ []) (name_met 2 3 3) ∷ row 1 (of 4 0x02016100) (some []) (a ∷ []) (name_met 2 3 4)
    ∷ row 1 (of 7 0x02016101016200) none (a ∷ []) (name_met 2 3 7) ∷ row 2 (of 7 0x02016101016200) (some []) (a ∷ []) (name_met 2 3 7)
    ∷ []

abbrev computed : Row → Row
computed x = record {
  levels = x.levels;
  part = x.part;
  left = pass_over x.levels true x.part;
  names = frame_names x.levels x.part;
  first = name_at x.levels 0 x.part;
}

pub passing_pinned : map computed pinned ≡ pinned
unfolding var_uint is_text due known read_var_uint fixed is_empty payload writable pass_over name_of names_until name_at
passing_pinned = refl

-- without a name; and names at a position, which count from the front of the part
pub items_pinned : map (λ s. pass_over 31 false s) (of 3 0x080561 ∷ of 4 0x04010061 ∷ of 8 0x0201016200610000 ∷ of 2 0x0201 ∷ [])
    ≡ some (of 1 0x61) ∷ some (of 1 0x61) ∷ some (of 3 0x610000) ∷ none ∷ []
unfolding var_uint is_text due known read_var_uint fixed is_empty payload writable pass_over
items_pinned = refl

pub places_pinned : map (λ n. name_at 31 n (of 7 0x08016105010162)) (0 ∷ 3 ∷ 4 ∷ 7 ∷ 9 ∷ []) ≡ name_met 2 3 4 ∷ None ∷ name_met 6 7 7 ∷ None ∷ None ∷ []
unfolding var_uint is_text due known read_var_uint fixed is_empty payload writable pass_over name_of name_at
places_pinned = refl
