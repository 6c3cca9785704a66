-- What a leaf's place shows: its kind and its view tell its value, and so do the value calls.
use Rattle.std.specs.Prelude.{Some}
use Prim.Native.Nat.{ℕ, suc, ◌^◌}
use native.Mathlib.Omega.{arith}
use mathlib.Core.Path.{◌≡◌, refl, sym, ap, ◌∙◌}
use mathlib.Core.Logic.{inl, inr}
use mathlib.Core.Bool.{Bool, true, false, not, cond}
use mathlib.Core.List.{List, [], ◌++◌}
use lib.ListN.{length, drop}
use lib.Dec.{ltb}
use lib.IntN.{pos, negsuc}
use borrow.Author.Tests.{lt-ltb, le-ltb, le-leb, lt-leb}
use Rattle.number.specs.BigEndian.{from_bytes}
use Rattle.number.specs.Signed.{from_twos}
use Rattle.text.specs.Utf8.{is_text}
use Rattle.float.specs.Rule.{holds}
use Rattle.float.specs.Width.{is_nan32, is_nan64, widen}
use Rattle.format.specs.declared.Kind.{Kind}
use Rattle.format.specs.declared.Kind.TheVariants.{Null, Object, UniformObject, Array, UniformArray, Binary, String, IntegerPositive, IntegerNegative}
use Rattle.format.specs.declared.Kind.TheVariants.{Float32, Float64, False, True, ObjectAttachment, BinaryAttachment, Hash, Uuid, DateTime, TimeSpan}
use Rattle.format.specs.declared.Kind.TheVariants.{ObjectId, CustomById, CustomByName}
use Rattle.places.specs.declared.Place.{Place}
use Rattle.format.specs.Kinds.{has_size}
use Rattle.format.specs.declared.Flaw.{Flaw}
use Rattle.format.specs.declared.Flaw.TheVariants.{Low, Wide, NotUtf8}
use Rattle.format.specs.Parse.{Out, got, make, read_var_uint, fixed, sized, rest}
use Rattle.format.specs.Names.{read_text}
use Rattle.format.specs.Tree.{number, nan32, nan64, Leaf, null, bool, integer, float, binary, string, object_attachment, binary_attachment, hash, uuid, object_id}
use Rattle.format.specs.Tree.{date_time, time_span, custom_by_id, custom_by_name}
use Rattle.format.specs.Payload.{float32, float64, read_negative, read_float64, read_custom_by_id, read_custom_by_name, payload, value, fields_in, items_in, head}
use Rattle.places.specs.Places.{size_length, check}
use Rattle.places.specs.Values.{Sort, whole, real, time, other, sort_of, double_of, signed_of, unsigned_of, ticks_of, double, signed, unsigned, ticks}
use Rattle.places.specs.Show.{Reads, FloatViewed, Viewed, Answered}
use Rattle.format.proofs.Lists.{append_nil}
use Rattle.format.proofs.Local.{bind_got, raise_got, local_number}
use Rattle.places.proofs.FieldBytes.{sized_read, fixed_got}
use Rattle.places.proofs.Containers.{head_contained}
use Rattle.number.proofs.Clash.{clash}

-- ---- kind and view

-- what is left of the payload s behind its size, if it has one
abbrev pub behind_size : Kind → List ℕ → List ℕ
behind_size k s = drop (size_length (Some k) s) s

value_got : {X : Type 0} (o : Out Leaf) {v : Leaf} {fs : List Flaw} → make value o ≡ got (value v) fs [] → ((es : List Flaw) → o ≡ got v es [] → X) → X
value_got {X} o {v} e c = bind_got o (λ u q. got (value u) [] q) e λ u es q gs i j _.
    let z : u ≡ v = cc in
    let y : q ≡ [] = cc in
    c es (rw (z, y) at i)

made_got : {A X : Type 0} (f : A → Leaf) (o : Out A) {v : Leaf} {fs : List Flaw} → make f o ≡ got v fs []
    → ((a : A) (es : List Flaw) → o ≡ got a es [] → v ≡ f a → X) → X
made_got f o {v} e c = bind_got o (λ a q. got (f a) [] q) e λ a es q gs i j _.
    let y : q ≡ [] = cc in
    c a es (rw y at i) (cc)

-- n bytes, all of the payload
bytes_viewed : {X : Type 0} (n : ℕ) (f : List ℕ → Leaf) (s : List ℕ) {v : Leaf} {fs : List Flaw} → make value (make f (fixed n s)) ≡ got (value v) fs []
    → (length s ≡ n → v ≡ f s → X) → X
bytes_viewed n f s e c = value_got (make f (fixed n s)) e λ es i. made_got f (fixed n s) i λ b gs j z. fixed_got n s j λ w l.
    let y : s ≡ b = rw (append_nil b) at w in
    c (rw (← y) at l) (rw (← y) at z)

text_read : {X : Type 0} (s : List ℕ) {n : List ℕ} {fs : List Flaw} {q : List ℕ} → read_text s ≡ got n fs q
    → ((w : List ℕ) → s ≡ w ++ (n ++ q) → Reads read_var_uint w (length n) → X) → X
text_read s {n} {fs} {q} h c =
    bind_got (sized rest s) _ h λ t es r gs e i _. raise_got (not (is_text t)) NotUtf8 (got t [] r) i λ _ j.
    sized_read rest s e λ w v _ m es f _ _.
    let z : v ≡ n = cc in
    let y : r ≡ q = cc in
    c w (rw (z, y) at es) (rw z at f)

float32_viewed : (s : List ℕ) → length s ≡ 4 → FloatViewed Float32 (float32 (from_bytes s)) s
float32_viewed s l = go (is_nan32 (from_bytes s))
  where
    go : (x : Bool) → FloatViewed Float32 (cond x (nan32 (from_bytes s)) (number (widen (from_bytes s)))) s
    go true = (refl, l, refl)
    go false = inl (refl, l, refl)

float64_viewed : (s : List ℕ) → length s ≡ 8 → FloatViewed Float64 (float64 (from_bytes s)) s
float64_viewed s l = go (is_nan64 (from_bytes s))
  where
    go : (x : Bool) → FloatViewed Float64 (cond x (nan64 (from_bytes s)) (number (from_bytes s))) s
    go true = (refl, l, refl)
    go false = inr (refl, l, refl)

pub leaf_viewed : (k : Kind) (s : List ℕ) (v : Leaf) (fs : List Flaw) → head k s ≡ got (value v) fs [] → Viewed k v (behind_size k s)
unfolding head payload has_size
leaf_viewed Null s v fs e = value_got (got null [] s) e λ es i. let z : v ≡ null = cc in let y : s ≡ [] = cc in rw z (refl, y)
leaf_viewed Object s v fs e = let i = (head_contained Object s e).1 in clash (cc)
leaf_viewed UniformObject s v fs e = let i = (head_contained UniformObject s e).1 in clash (cc)
leaf_viewed Array s v fs e = let i = (head_contained Array s e).1 in clash (cc)
leaf_viewed UniformArray s v fs e = let i = (head_contained UniformArray s e).1 in clash (cc)
leaf_viewed Binary s v fs e =
    value_got (make binary (sized rest s)) e λ es i. made_got binary (sized rest s) i λ b gs j z. sized_read rest s j λ w t hs m _ _ d _.
    let y : t ≡ b = cc in
    rw z (refl, d ∙ append_nil t ∙ y)
leaf_viewed String s v fs e = value_got (make string (read_text s)) e λ es i. made_got string (read_text s) i λ b gs j z.
    bind_got (sized rest s) _ j λ c es' q gs' i' k _. raise_got (not (is_text c)) NotUtf8 (got c [] q) k λ _ j'.
    sized_read rest s i' λ w t hs m _ _ d _.
    let y : t ≡ b = cc in
    let x : q ≡ [] = cc in
    rw z (refl, d ∙ (ap (λ r. t ++ r) x ∙ (append_nil t ∙ y)))
leaf_viewed IntegerPositive s v fs e =
    value_got (make (λ m. integer (pos m)) (read_var_uint s)) e λ es i. made_got (λ m. integer (pos m)) (read_var_uint s) i λ m gs j z. rw z (refl, (gs, j))
leaf_viewed IntegerNegative s v fs e = value_got (read_negative s) e λ es i.
    bind_got (read_var_uint s) _ i λ m es' q gs' i' k _. raise_got (not (ltb m (2 ^ 63))) Low (got (integer (negsuc m)) [] q) k λ _ j.
    let z : v ≡ integer (negsuc m) = cc in
    let y : q ≡ [] = cc in
    rw z (refl, (es', rw y at i'))
leaf_viewed Float32 s v fs e = bytes_viewed 4 (λ b. float (float32 (from_bytes b))) s e λ l z. rw z (float32_viewed s l)
leaf_viewed Float64 s v fs e = value_got (read_float64 s) e λ es i.
    bind_got (fixed 8 s) _ i λ b es' q gs' i' k _. raise_got (holds (from_bytes b)) Wide (got (float (float64 (from_bytes b))) [] q) k λ _ j.
    fixed_got 8 s i' λ w l.
    let z : v ≡ float (float64 (from_bytes b)) = cc in
    let x : q ≡ [] = cc in
    let y : b ≡ s = sym (append_nil b) ∙ (ap (λ t. b ++ t) (sym x) ∙ sym w) in
    rw (z, y) (float64_viewed s (rw y at l))
leaf_viewed False s v fs e = value_got (got (bool false) [] s) e λ es i. let z : v ≡ bool false = cc in let y : s ≡ [] = cc in rw z (refl, y)
leaf_viewed True s v fs e = value_got (got (bool true) [] s) e λ es i. let z : v ≡ bool true = cc in let y : s ≡ [] = cc in rw z (refl, y)
leaf_viewed ObjectAttachment s v fs e = bytes_viewed 20 object_attachment s e λ l z. rw z (refl, refl)
leaf_viewed BinaryAttachment s v fs e = bytes_viewed 20 binary_attachment s e λ l z. rw z (refl, refl)
leaf_viewed Hash s v fs e = bytes_viewed 20 hash s e λ l z. rw z (refl, refl)
leaf_viewed Uuid s v fs e = bytes_viewed 16 uuid s e λ l z. rw z (refl, refl)
leaf_viewed DateTime s v fs e = bytes_viewed 8 (λ b. date_time (from_twos (from_bytes b))) s e λ l z. rw z (refl, l, refl)
leaf_viewed TimeSpan s v fs e = bytes_viewed 8 (λ b. time_span (from_twos (from_bytes b))) s e λ l z. rw z (refl, l, refl)
leaf_viewed ObjectId s v fs e = bytes_viewed 12 object_id s e λ l z. rw z (refl, refl)
leaf_viewed CustomById s v fs e = value_got (sized read_custom_by_id s) e λ es i. sized_read read_custom_by_id s i λ w b gs j _ _ d _.
    bind_got (read_var_uint b) _ j λ n es' q gs' i' k _.
    let z : v ≡ custom_by_id n q = cc in
    let x = local_number b n es' q i' in
    rw z (refl, x.0, (es', rw (← append_nil x.0) (x.2 [])), d ∙ append_nil b ∙ x.1)
leaf_viewed CustomByName s v fs e = value_got (sized read_custom_by_name s) e λ es i. sized_read read_custom_by_name s i λ w b gs j _ _ d _.
    bind_got (read_text b) _ j λ n es' q gs' i' k _. text_read b i' λ u r f.
    let z : v ≡ custom_by_name n q = cc in
    rw z (refl, u, f, d ∙ append_nil b ∙ r)

-- ---- values

answered : (o : Sort) (s : List ℕ) (p : Place) → signed s p ≡ signed_of o → unsigned s p ≡ unsigned_of o → double s p ≡ double_of o
    → ticks s p ≡ ticks_of o → Answered o s p
answered (whole (pos n)) s p e f g h =
    ((λ l. rw (e, lt-ltb n (2 ^ 63) l), λ l. rw (e, le-ltb n (2 ^ 63) l), f, λ l. rw (g, le-leb n (2 ^ 53) l), λ l. rw (g, lt-leb n (2 ^ 53) l)), h)
answered (whole (negsuc m)) s p e f g h = (
  (
    λ l. rw (e, lt-ltb m (2 ^ 63) l),
    λ l. rw (e, le-ltb m (2 ^ 63) l),
    f,
    λ l. rw (g, le-leb (suc m) (2 ^ 53) l),
    λ l. rw (g, lt-leb (suc m) (2 ^ 53) (omega arith)),
  ),
  h,
)
answered (real x) s p e f g h = ((e, f), g, h)
answered (time z) s p e f g h = ((e, f), g, h)
answered other s p e f g h = ((e, f), g, h)

module _ (s : List ℕ) (p : Place) (fs : List Flaw) where
  pub leaf_answered : (v : Leaf) → check s p ≡ got (value v) fs [] → Answered (sort_of v) s p
  unfolding signed unsigned double ticks
  leaf_answered v e = answered (sort_of v) s p (rw e) (rw e) (rw e) (rw e)

  pub fields_answered : (o : _) (b : List ℕ) → check s p ≡ got (fields_in o b) fs [] → Answered other s p
  unfolding signed unsigned double ticks
  fields_answered o b e = answered other s p (rw e) (rw e) (rw e) (rw e)

  pub items_answered : (o : _) (n : ℕ) (b : List ℕ) → check s p ≡ got (items_in o n b) fs [] → Answered other s p
  unfolding signed unsigned double ticks
  items_answered o n b e = answered other s p (rw e) (rw e) (rw e) (rw e)
