-- What the second pass puts into the output: what the code knows at each return.
use Prim.Native.Nat.{ℕ, ◌+◌, ◌-◌, ◌/◌, ◌%◌, ◌≤◌, ◌<◌}
use native.Mathlib.Omega.{arith}
use native.Mathlib.Nat.{add-zero, div-one}
use mathlib.Core.Path.{◌≡◌, sym, ap, ◌∙◌}
use mathlib.Core.Bool.{Bool, true, false}
use mathlib.Core.List.{List, [], ◌∷◌, ◌++◌, append_assoc}
use lib.ListN.{length, set, take, drop}
use lib.Seq.{sets, sets-eq, drop-drop, length-sets}
use borrow.Rule.Slice.PartMut.{put_mid}
use Rattle.std.specs.Int.{to_be_bytes}
use mir.Syntax.{w8, w32}
use mir.Val.{Fits}
use Rattle.number.specs.BigEndian.{to_bytes}
use Rattle.number.specs.VarUInt.{encoded}
use Rattle.format.specs.Kinds.{flags}
use Rattle.front.specs.Between.{between}
use Rattle.frames.specs.Container.{count_part, type_part, type_mark, shared_in}
use Rattle.frames.proofs.PlaceLaws.{sets_append}
use Rattle.format.specs.declared.Mark.{Mark}
use Rattle.format.specs.declared.Mark.TheVariants.{OfTop, OfField, OfItem, SharedByFields, SharedByItems}

-- ---- a Float32

high_first : (v : ℕ) → to_be_bytes w32 v ≡ to_bytes 4 v
high_first v = ap (λ (z : ℕ). (v / 16777216 % 256) ∷ (v / 65536 % 256) ∷ (v / 256 % 256) ∷ (z % 256) ∷ []) (sym (div-one v))

pub float_bytes : (out y : List ℕ) (at v : ℕ) → at + 4 ≤ length out → y ≡ to_be_bytes w32 v
    → put_mid at (at + 4 - at) out y ≡ sets out at (to_bytes 4 v)
float_bytes out y at v h e =
    let k : at + 4 - at ≡ 4 = omega arith in
    rw (k, e ∙ high_first v, drop-drop 4 at out)
    (sym (append_assoc (take at out) (to_bytes 4 v) (drop (at + 4) out)) ∙ sym (sets-eq (to_bytes 4 v) out at h))

-- ---- a type byte

-- an ID fits beside any flags
flags_most : (m : Mark) → flags m ≤ 192
flags_most OfTop = omega arith
flags_most OfField = omega arith
flags_most OfItem = omega arith
flags_most SharedByFields = omega arith
flags_most SharedByItems = omega arith

pub flags_fit : (m : Mark) (f i : ℕ) → f ≡ flags m → i < 32 → Fits w8 (f + i)
flags_fit m f i e h = record { fits = rw e (omega (arith, flags_most m)) }

pub shared_under : (x c : ℕ) → c ≡ shared_in x → c < 32
shared_under x c e = omega arith

module _ (at : ℕ) (named typed : Bool) (i : ℕ) where
  pub type_none : typed ≡ false → at ≡ at + length (type_part named typed i)
  unfolding type_part
  type_none e = rw (e, add-zero at)

  pub type_one_law : typed ≡ true → at + 1 ≡ at + length (type_part named typed i)
  unfolding type_part
  type_one_law e = rw e

  module _ (out : List ℕ) where
    pub type_room : at + length (type_part named typed i) ≤ length out → typed ≡ true → at < length out
    unfolding type_part
    type_room l e = let z : at + 1 ≤ length out = rw e at l in omega arith

    pub type_kept : typed ≡ false → out ≡ sets out at (type_part named typed i)
    unfolding type_part
    type_kept e = rw e

    pub type_put : typed ≡ true → (f : ℕ) → f ≡ flags (type_mark named) → set out at (f + i) ≡ sets out at (type_part named typed i)
    unfolding type_part
    type_put e f h = rw (e, h)

-- ---- type byte and name

module _ (s : List ℕ) (from start : ℕ) (l : from ≤ start) (h : start ≤ length s) (named typed : Bool) (i : ℕ) (out : List ℕ) (to : ℕ) (at : ℕ)
    (e : at ≡ to + length (type_part named typed i)) where
  pub front_room : to + (length (type_part named typed i) + (start - from)) ≤ length out → to + length (type_part named typed i) ≤ length out
  front_room q = omega arith

  module _ (out₁ : List ℕ) (eo : out₁ ≡ sets out to (type_part named typed i)) where
    pub front_copy : to + (length (type_part named typed i) + (start - from)) ≤ length out → at + (start - from) ≤ length out₁
    front_copy q = rw (eo, length-sets) (omega arith)

    pub front_done : (out₂ : List ℕ) → out₂ ≡ sets out₁ at (between from start s) → out₂ ≡ sets out to (type_part named typed i ++ between from start s)
    front_done out₂ q = q ∙ rw (eo, e) (sets_append (type_part named typed i) (between from start s) out to)

-- ---- the count

module _ (out : List ℕ) (at : ℕ) (named : Bool) (n : ℕ) where
  pub count_room : at + length (count_part named n) ≤ length out → named ≡ false → at + length (encoded n) ≤ length out
  unfolding count_part
  count_room l e = rw e at l

  pub count_put : (out' : List ℕ) → named ≡ false → out' ≡ sets out at (encoded n) → out' ≡ sets out at (count_part named n)
  unfolding count_part
  count_put out' e h = rw e h

  pub count_kept : named ≡ true → out ≡ sets out at (count_part named n)
  unfolding count_part
  count_kept e = rw e

pub ruleset count_laws = (count_room, count_put, count_kept)
