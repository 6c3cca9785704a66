-- Of a leaf only what was encoded is read with no flaw. Kinds of fixed bytes share a law, and so do kinds of sized bytes.
use Prim.Native.Nat.{ℕ, ◌-◌, ◌^◌, ◌<◌}
use native.Mathlib.Omega.{arith}
use mathlib.Core.Path.{◌≡◌, refl, subst}
use mathlib.Core.Bool.{Bool, true, false, not, cond}
use mathlib.Core.List.{List, [], ◌++◌}
use lib.ListN.{length}
use lib.Dec.{ltb}
use lib.IntN.{pos, negsuc}
use borrow.Author.Tests.{not-false, ltb-true, ltb-false}
use Rattle.number.specs.BigEndian.{Bytes, from_bytes, to_bytes}
use Rattle.number.specs.Signed.{from_twos, to_twos}
use Rattle.number.proofs.SignedLaws.{twos_inv}
use Rattle.float.specs.Rule.{holds}
use Rattle.float.specs.Width.{is_nan32, is_nan64, widen}
use Rattle.float.proofs.Laws.{widen_lt, widen_nan_law, widen_holds, narrow_widen}
use Rattle.format.specs.declared.Kind.{Kind}
use Rattle.format.specs.declared.Kind.TheVariants.{Null, Object, UniformObject, Array, UniformArray, Binary, String, IntegerPositive, IntegerNegative}
use Rattle.format.specs.declared.Kind.TheVariants.{Float32, Float64, False, True, ObjectAttachment, BinaryAttachment, Hash, Uuid, DateTime, TimeSpan}
use Rattle.format.specs.declared.Kind.TheVariants.{ObjectId, CustomById, CustomByName}
use Rattle.format.specs.declared.Flaw.TheVariants.{Low, Wide}
use Rattle.format.specs.Parse.{Out, got, make, read_var_uint, fixed, sized, rest}
use Rattle.format.specs.Names.{read_text}
use Rattle.format.specs.Tree.{number, nan32, nan64, Leaf, null, bool, integer, float, binary, string, object_attachment, binary_attachment, hash, uuid}
use Rattle.format.specs.Tree.{object_id, date_time, time_span, custom_by_id, custom_by_name, TicksWithin, FloatWithin, LeafWithin}
use Rattle.format.specs.Encoding.{with_size, float_kind, float_payload, leaf_kind, leaf_payload}
use Rattle.format.specs.Payload.{float32, float64, read_negative, read_float64, read_custom_by_id, read_custom_by_name, Payload, leaf, fields, shared_fields}
use Rattle.format.specs.Payload.{items, shared_items, payload}
use Rattle.format.proofs.Back.{bind_case, make_case, raise_off, number_case, fixed_case, sized_case}
use Rattle.format.proofs.TextLaws.{text_case}
use Rattle.format.proofs.Leaves.{bits_lt, bits_of}

-- v was read from s with r left: s begins with its encoding, which has this kind
abbrev pub LeafBack : Kind → List ℕ → Leaf → List ℕ → Type 0
LeafBack k s v r = (s ≡ leaf_payload v ++ r) × (leaf_kind v ≡ k) × LeafWithin v

abbrev pub OnlyLeaves : Kind → (List ℕ → Out Leaf) → Type 0
OnlyLeaves k p = (s : List ℕ) (v : Leaf) (r : List ℕ) → Bytes s → p s ≡ got v [] r → LeafBack k s v r

-- bytes of a fixed size, and bytes behind their size, of which `made` makes the leaf
fixed_only : (k : Kind) (n : ℕ) (made : List ℕ → Leaf)
    → ((b : List ℕ) → Bytes b → length b ≡ n → (leaf_payload (made b) ≡ b) × (leaf_kind (made b) ≡ k) × LeafWithin (made b))
    → OnlyLeaves k (λ s. make made (fixed n s))
fixed_only k n made f s v r w h = make_case made (fixed n s) h λ b e z. fixed_case n s w e λ es l wb.
    let i = f b wb l in rw z (rw i.0 es, i.1, i.2)

sized_only : (k : Kind) (made : List ℕ → Leaf) → ((b : List ℕ) → Bytes b → (leaf_payload (made b) ≡ with_size b) × (leaf_kind (made b) ≡ k) × LeafWithin (made b))
    → OnlyLeaves k (λ s. make made (sized rest s))
sized_only k made f s v r w h = make_case made (sized rest s) h λ b e z. sized_case rest w e λ c e' es wc l.
    let y : c ≡ b = cc in
    let i = f b (subst Bytes y wc) in rw z (rw (i.0, ← y) es, i.1, i.2)

ticks_only : (m : ℕ) → m < 2 ^ 64 → TicksWithin (from_twos m)
ticks_only m l = go (ltb m (2 ^ 63)) refl
  where
    go : (x : Bool) → ltb m (2 ^ 63) ≡ x → TicksWithin (cond x (pos m) (negsuc (2 ^ 64 - 1 - m)))
    go true e = ltb-true m (2 ^ 63) e
    go false e = omega (arith, ltb-false m (2 ^ 63) e)

-- the ticks of eight bytes
ticks_of_law : (b : List ℕ) → Bytes b → length b ≡ 8 → (to_bytes 8 (to_twos (from_twos (from_bytes b))) ≡ b) × TicksWithin (from_twos (from_bytes b))
ticks_of_law b w l = let f = bits_lt 8 b w l in (rw (twos_inv (from_bytes b) f) (bits_of 8 b w l), ticks_only (from_bytes b) f)

float32_of : (b : List ℕ) → Bytes b → length b ≡ 4
    → (float_payload (float32 (from_bytes b)) ≡ b) × (float_kind (float32 (from_bytes b)) ≡ Float32) × FloatWithin (float32 (from_bytes b))
float32_of b w l = go (is_nan32 (from_bytes b)) refl
  where
    f : from_bytes b < 2 ^ 32
    f = bits_lt 4 b w l

    go : (x : Bool) → is_nan32 (from_bytes b) ≡ x
        → (float_payload (cond x (nan32 (from_bytes b)) (number (widen (from_bytes b)))) ≡ b)
        × (float_kind (cond x (nan32 (from_bytes b)) (number (widen (from_bytes b)))) ≡ Float32)
        × FloatWithin (cond x (nan32 (from_bytes b)) (number (widen (from_bytes b))))
    go true e = (bits_of 4 b w l, refl, (f, e))
    go false e = (
      rw (widen_holds (from_bytes b) f e, narrow_widen (from_bytes b) f e) (bits_of 4 b w l),
      rw (widen_holds (from_bytes b) f e),
      (widen_lt (from_bytes b) f e, widen_nan_law (from_bytes b) f e),
    )

float64_of : (b : List ℕ) → Bytes b → length b ≡ 8 → holds (from_bytes b) ≡ false
    → (float_payload (float64 (from_bytes b)) ≡ b) × (float_kind (float64 (from_bytes b)) ≡ Float64) × FloatWithin (float64 (from_bytes b))
float64_of b w l h = go (is_nan64 (from_bytes b)) refl
  where
    f : from_bytes b < 2 ^ 64
    f = bits_lt 8 b w l

    go : (x : Bool) → is_nan64 (from_bytes b) ≡ x
        → (float_payload (cond x (nan64 (from_bytes b)) (number (from_bytes b))) ≡ b)
        × (float_kind (cond x (nan64 (from_bytes b)) (number (from_bytes b))) ≡ Float64)
        × FloatWithin (cond x (nan64 (from_bytes b)) (number (from_bytes b)))
    go true e = (bits_of 8 b w l, refl, (f, e))
    go false e = (rw h (bits_of 8 b w l), rw h, (f, e))

float64_only : OnlyLeaves Float64 read_float64
float64_only s v r w h = bind_case (fixed 8 s) _ h λ b q e h₁. fixed_case 8 s w e λ es l wb.
    let j = raise_off (holds (from_bytes b)) Wide (got (float (float64 (from_bytes b))) [] q) h₁ in
    let z : v ≡ float (float64 (from_bytes b)) = cc in
    let y : q ≡ r = cc in
    let i = float64_of b wb l j.0 in
    rw (z, ← y) (rw i.0 es, i.1, i.2)

negative_only : OnlyLeaves IntegerNegative read_negative
negative_only s v r w h = bind_case (read_var_uint s) _ h λ m q e h₁. number_case s w e λ es l wq.
    let j = raise_off (not (ltb m (2 ^ 63))) Low (got (integer (negsuc m)) [] q) h₁ in
    let z : v ≡ integer (negsuc m) = cc in
    let y : q ≡ r = cc in
    rw (z, ← y) (es, refl, ltb-true m (2 ^ 63) (not-false (ltb m (2 ^ 63)) j.0))

positive_only : OnlyLeaves IntegerPositive (λ s. make (λ m. integer (pos m)) (read_var_uint s))
positive_only s v r w h = make_case (λ m. integer (pos m)) (read_var_uint s) h λ m e z. number_case s w e λ es l wq. rw z (es, refl, l)

string_only : OnlyLeaves String (λ s. make string (read_text s))
string_only s v r w h = make_case string (read_text s) h λ t e z. text_case s w e λ es wt wq l. rw z (es, refl, wt)

by_id_only : OnlyLeaves CustomById (λ s. sized read_custom_by_id s)
by_id_only s v r w h = sized_case read_custom_by_id w h λ b e es wb l.
    bind_case (read_var_uint b) _ e λ n q e₁ h₁. number_case b wb e₁ λ eb ln wq.
    let z : v ≡ custom_by_id n q = cc in
    rw z (rw eb at es, refl, (ln, wq))

by_name_only : OnlyLeaves CustomByName (λ s. sized read_custom_by_name s)
by_name_only s v r w h = sized_case read_custom_by_name w h λ b e es wb l.
    bind_case (read_text b) _ e λ n q e₁ h₁. text_case b wb e₁ λ eb wn wq ln.
    let z : v ≡ custom_by_name n q = cc in
    rw z (rw eb at es, refl, (wn, wq))

nothing_only : (k : Kind) (v₀ : Leaf) → leaf_payload v₀ ≡ [] → leaf_kind v₀ ≡ k → LeafWithin v₀ → OnlyLeaves k (λ s. got v₀ [] s)
nothing_only k v₀ e i w₀ s v r w h =
    let z : v ≡ v₀ = cc in
    let y : s ≡ r = cc in
    rw z (rw e y, i, w₀)

-- the kind of a container
abbrev pub OnlyBy : Kind → Payload → Type 0
OnlyBy k (leaf p) = OnlyLeaves k p
OnlyBy k fields = k ≡ Object
OnlyBy k shared_fields = k ≡ UniformObject
OnlyBy k items = k ≡ Array
OnlyBy k shared_items = k ≡ UniformArray

pub leaf_only : (k : Kind) → OnlyBy k (payload k)
unfolding payload
leaf_only Null = nothing_only Null null refl refl tt
leaf_only Object = refl
leaf_only UniformObject = refl
leaf_only Array = refl
leaf_only UniformArray = refl
leaf_only Binary = sized_only Binary binary (λ b w. (refl, refl, w))
leaf_only String = string_only
leaf_only IntegerPositive = positive_only
leaf_only IntegerNegative = negative_only
leaf_only Float32 = fixed_only Float32 4 (λ b. float (float32 (from_bytes b))) float32_of
leaf_only Float64 = float64_only
leaf_only False = nothing_only False (bool false) refl refl tt
leaf_only True = nothing_only True (bool true) refl refl tt
leaf_only ObjectAttachment = fixed_only ObjectAttachment 20 object_attachment (λ b w l. (refl, refl, (w, l)))
leaf_only BinaryAttachment = fixed_only BinaryAttachment 20 binary_attachment (λ b w l. (refl, refl, (w, l)))
leaf_only Hash = fixed_only Hash 20 hash (λ b w l. (refl, refl, (w, l)))
leaf_only Uuid = fixed_only Uuid 16 uuid (λ b w l. (refl, refl, (w, l)))
leaf_only DateTime = fixed_only DateTime 8 (λ b. date_time (from_twos (from_bytes b))) (λ b w l. let i = ticks_of_law b w l in (i.0, refl, i.1))
leaf_only TimeSpan = fixed_only TimeSpan 8 (λ b. time_span (from_twos (from_bytes b))) (λ b w l. let i = ticks_of_law b w l in (i.0, refl, i.1))
leaf_only ObjectId = fixed_only ObjectId 12 object_id (λ b w l. (refl, refl, (w, l)))
leaf_only CustomById = by_id_only
leaf_only CustomByName = by_name_only
