-- The payload of a leaf is read back, and has a byte at least.
use Prim.Native.Nat.{ℕ, ◌+◌, ◌^◌, ◌≤◌, ◌<◌}
use native.Mathlib.Omega.{arith}
use mathlib.Core.Path.{◌≡◌, refl}
use mathlib.Core.Bool.{Bool, true, false, cond}
use mathlib.Core.List.{List, [], ◌++◌}
use lib.ListN.{length, length-append}
use lib.IntN.{ℤ, pos, negsuc}
use borrow.Author.Tests.{lt-ltb}
use Rattle.number.proofs.Clash.{clash}
use Rattle.number.specs.BigEndian.{Bytes, from_bytes, to_bytes}
use Rattle.number.specs.VarUInt.{encoded}
use Rattle.number.specs.Signed.{from_twos, to_twos}
use Rattle.number.proofs.BigEndianLaws.{to_length, from_to, to_from, from_lt}
use Rattle.number.proofs.VarUIntLaws.{encoded_length}
use Rattle.number.proofs.SignedLaws.{twos_pos, twos_neg, twos_pos_lt, twos_neg_lt}
use Rattle.float.specs.Rule.{holds}
use Rattle.float.specs.Width.{narrow}
use Rattle.float.proofs.Laws.{holds_nan, narrow_lt, narrow_nan, widen_narrow}
use Rattle.format.specs.declared.Kind.TheVariants.{Float32, Float64}
use Rattle.format.specs.Kinds.{is_bare}
use Rattle.format.specs.Parse.{got, fixed, rest}
use Rattle.format.specs.Tree.{Float, number, nan32, nan64, Leaf, null, bool, integer, float, binary, string, object_attachment, binary_attachment, hash}
use Rattle.format.specs.Tree.{uuid, object_id, date_time, time_span, custom_by_id, custom_by_name, TicksWithin, FloatWithin, LeafWithin}
use Rattle.format.specs.Encoding.{with_size, float_kind, float_payload, leaf_kind, leaf_payload}
use Rattle.format.specs.Payload.{read_custom_by_id, read_custom_by_name, payload, value, head}
use Rattle.format.proofs.Back.{number_rt, fixed_rt, sized_rt}
use Rattle.format.proofs.TextLaws.{inside_lt, text_rt}

-- ---- numbers of a fixed width

module _ (n v : ℕ) (r : List ℕ) (fits : v < 256 ^ n) where
  pub bits_rt : fixed n (to_bytes n v ++ r) ≡ got (to_bytes n v) [] r
  bits_rt = fixed_rt n (to_bytes n v) r (to_length n v)

  pub bits_back : from_bytes (to_bytes n v) ≡ v
  bits_back = from_to n v fits

pub bits_of : (n : ℕ) (b : List ℕ) → Bytes b → length b ≡ n → to_bytes n (from_bytes b) ≡ b
bits_of n b w l = rw l at (to_from b w)

pub bits_lt : (n : ℕ) (b : List ℕ) → Bytes b → length b ≡ n → from_bytes b < 256 ^ n
bits_lt n b w l = rw l at (from_lt b w)

-- ---- what was encoded is read back

float_rt : (x : Float) (r : List ℕ) → FloatWithin x → head (float_kind x) (float_payload x ++ r) ≡ got (value (float x)) [] r
unfolding head payload
float_rt (number b) r w = go (holds b) refl
  where
    go : (h : Bool) → holds b ≡ h → head (cond h Float32 Float64) (cond h (to_bytes 4 (narrow b)) (to_bytes 8 b) ++ r) ≡ got (value (float (number b))) [] r
    go true e =
        let l = narrow_lt b w.0 w.1 e in
        rw (bits_rt 4 (narrow b) r l, bits_back 4 (narrow b) r l, narrow_nan b w.0 w.1 e, widen_narrow b w.0 w.1 e)
    go false e = rw (bits_rt 8 b r w.0, bits_back 8 b r w.0, e, w.1)
float_rt (nan32 b) r w = rw (bits_rt 4 b r w.0, bits_back 4 b r w.0, w.1)
float_rt (nan64 b) r w = rw (bits_rt 8 b r w.0, bits_back 8 b r w.0, holds_nan b w.1, w.1)

ticks_rt : (z : ℤ) → TicksWithin z → (to_twos z < 256 ^ 8) × (from_twos (to_twos z) ≡ z)
ticks_rt (pos n) w = (twos_pos_lt n w, twos_pos n w)
ticks_rt (negsuc n) w = (twos_neg_lt n w, twos_neg n w)

pub leaf_rt : (v : Leaf) (r : List ℕ) → LeafWithin v → length (leaf_payload v) < 2 ^ 64 → head (leaf_kind v) (leaf_payload v ++ r) ≡ got (value v) [] r
unfolding head payload
leaf_rt null r w l = refl
leaf_rt (bool true) r w l = refl
leaf_rt (bool false) r w l = refl
leaf_rt (integer (pos n)) r w l = rw (number_rt n r w)
leaf_rt (integer (negsuc n)) r w l = rw (number_rt n r (omega arith), lt-ltb n (2 ^ 63))
leaf_rt (float x) r w l = float_rt x r w
leaf_rt (binary s) r w l = rw (sized_rt rest s s r (inside_lt s l) refl)
leaf_rt (string s) r w l = rw (text_rt s r w.1 (inside_lt s l))
leaf_rt (object_attachment s) r w l = rw (fixed_rt 20 s r w.1)
leaf_rt (binary_attachment s) r w l = rw (fixed_rt 20 s r w.1)
leaf_rt (hash s) r w l = rw (fixed_rt 20 s r w.1)
leaf_rt (uuid s) r w l = rw (fixed_rt 16 s r w.1)
leaf_rt (object_id s) r w l = rw (fixed_rt 12 s r w.1)
leaf_rt (date_time z) r w l = let i = ticks_rt z w in rw (bits_rt 8 (to_twos z) r i.0, bits_back 8 (to_twos z) r i.0, i.1)
leaf_rt (time_span z) r w l = let i = ticks_rt z w in rw (bits_rt 8 (to_twos z) r i.0, bits_back 8 (to_twos z) r i.0, i.1)
leaf_rt (custom_by_id n s) r w l = rw (sized_rt read_custom_by_id (encoded n ++ s) (custom_by_id n s) r (inside_lt (encoded n ++ s) l) (rw (number_rt n s w.0)))
leaf_rt (custom_by_name n s) r w l =
    let m : length (encoded (length n)) + length n + length s < 2 ^ 64 = simp length-append at (inside_lt (with_size n ++ s) l) in
    rw (sized_rt read_custom_by_name (with_size n ++ s) (custom_by_name n s) r (inside_lt (with_size n ++ s) l) (rw (text_rt n s w.0.1 (omega arith))))

-- ---- a leaf's payload has a byte at least, but for 01, 0C, 0D

bare_never : {X : Type 0} → true ≡ false → X
bare_never h = clash cc

some_of : (n : ℕ) (s : List ℕ) → 0 < n → length s ≡ n → 1 ≤ length s
some_of n s h e = omega arith

float_some : (x : Float) → 1 ≤ length (float_payload x)
float_some (number b) = go (holds b)
  where
    go : (h : Bool) → 1 ≤ length (cond h (to_bytes 4 (narrow b)) (to_bytes 8 b))
    go true = omega (arith, to_length 4 (narrow b))
    go false = omega (arith, to_length 8 b)
float_some (nan32 b) = omega (arith, to_length 4 b)
float_some (nan64 b) = omega (arith, to_length 8 b)

sized_some : (s : List ℕ) → 1 ≤ length (with_size s)
sized_some s = simp length-append (omega (arith, (encoded_length (length s)).0))

pub leaf_some : (v : Leaf) → LeafWithin v → is_bare (leaf_kind v) ≡ false → 1 ≤ length (leaf_payload v)
unfolding is_bare
leaf_some null w h = bare_never h
leaf_some (bool true) w h = bare_never h
leaf_some (bool false) w h = bare_never h
leaf_some (integer (pos n)) w h = (encoded_length n).0
leaf_some (integer (negsuc n)) w h = (encoded_length n).0
leaf_some (float x) w h = float_some x
leaf_some (binary s) w h = sized_some s
leaf_some (string s) w h = sized_some s
leaf_some (object_attachment s) w h = some_of 20 s (omega arith) w.1
leaf_some (binary_attachment s) w h = some_of 20 s (omega arith) w.1
leaf_some (hash s) w h = some_of 20 s (omega arith) w.1
leaf_some (uuid s) w h = some_of 16 s (omega arith) w.1
leaf_some (object_id s) w h = some_of 12 s (omega arith) w.1
leaf_some (date_time z) w h = omega (arith, to_length 8 (to_twos z))
leaf_some (time_span z) w h = omega (arith, to_length 8 (to_twos z))
leaf_some (custom_by_id n s) w h = sized_some (encoded n ++ s)
leaf_some (custom_by_name n s) w h = sized_some (with_size n ++ s)
