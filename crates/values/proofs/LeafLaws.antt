-- A leaf's bytes give its value.
use Rattle.std.specs.Prelude.{Option, None}
use Prim.Native.Nat.{ℕ, ◌^◌}
use mathlib.Core.Path.{◌≡◌, refl, ap, subst}
use mathlib.Core.Bool.{Bool, true, false, not, cond}
use mathlib.Core.List.{List, []}
use lib.ListN.{length, take, drop}
use lib.Dec.{ltb}
use lib.IntN.{pos, negsuc}
use Rattle.number.specs.BigEndian.{from_bytes}
use Rattle.number.specs.Signed.{minus_plus_one, from_twos}
use Rattle.number.specs.VarUInt.{var_uint}
use Rattle.number.specs.Fixed.{fixed32, fixed64}
use Rattle.number.proofs.NumberThenLaws.{number_both}
use Rattle.float.specs.Rule.{holds}
use Rattle.float.specs.Width.{is_nan32, is_nan64, widen}
use Rattle.format.specs.declared.Kind.{Kind}
use Rattle.format.specs.declared.Kind.TheVariants.{Null, Object, UniformObject, Array, UniformArray, Binary, String, IntegerPositive, IntegerNegative}
use Rattle.format.specs.declared.Kind.TheVariants.{Float32, Float64, False, True, ObjectAttachment, BinaryAttachment, Hash, Uuid, DateTime, TimeSpan}
use Rattle.format.specs.declared.Kind.TheVariants.{ObjectId, CustomById, CustomByName}
use Rattle.format.specs.declared.Stop.TheVariants.{Early}
use Rattle.format.specs.Kinds.{id}
use Rattle.format.specs.declared.Flaw.{Flaw}
use Rattle.format.specs.declared.Flaw.TheVariants.{Low, Wide, Long}
use Rattle.format.specs.Parse.{Out, fault, got, bind, raise, make, read_var_uint, fixed, sized, rest}
use Rattle.format.specs.Names.{read_text}
use Rattle.format.specs.Tree.{Leaf, null, bool, integer, float, binary, string, object_attachment, binary_attachment, hash, uuid, object_id}
use Rattle.format.specs.Tree.{date_time, time_span, custom_by_id, custom_by_name}
use Rattle.format.specs.Tree as trees
use Rattle.format.specs.Payload.{float32, float64, read_custom_by_id, read_custom_by_name, payload, Head, value, head}
use Rattle.places.specs.Values.{sort_of, float_bits}
use Rattle.format.proofs.Back.{never}
use Rattle.format.proofs.Local.{bind_got, raise_got, sized_got}
use Rattle.values.specs.Code.{value_by, integer_by, integer_in, float32_in, float64_in, time_in, value_in}
use Rattle.values.specs.declared.Value.{Value}
use Rattle.number.proofs.Clash.{clash}
use Rattle.places.proofs.Containers.{head_contained}

number_is : (t : Bool) (s : List ℕ) {m : ℕ} {fs : List Flaw} {r : List ℕ} → read_var_uint s ≡ got m fs r → integer_in t (var_uint s) ≡ integer_by t m
unfolding read_var_uint
number_is t s {m} {fs} {r} = number_both (λ o i. o ≡ got m fs r → i ≡ integer_by t m) (fault Early) _ None _ s never λ v n x e h.
    raise_got (not x) Long (got v [] (drop n s)) h λ gs k. let z : v ≡ m = cc in ap (integer_by t) z

fixed_is : (n : ℕ) (s : List ℕ) {b : List ℕ} {fs : List Flaw} {r : List ℕ} → fixed n s ≡ got b fs r → (ltb (length s) n ≡ false) × (take n s ≡ b)
unfolding fixed
fixed_is n s {b} {fs} {r} h = at (ltb (length s) n) refl h
  where
    at : (t : Bool) → ltb (length s) n ≡ t → cond t (fault Early) (got (take n s) [] (drop n s)) ≡ got b fs r → (ltb (length s) n ≡ false) × (take n s ≡ b)
    at true e h = never h
    at false e h = (e, cc)

bits32 : (n : ℕ) → float_bits (float32 n) ≡ widen n
bits32 n = at (is_nan32 n)
  where
    at : (t : Bool) → float_bits (cond t (trees.nan32 n) (trees.number (widen n))) ≡ widen n
    at true = refl
    at false = refl

bits64 : (n : ℕ) → float_bits (float64 n) ≡ n
bits64 n = at (is_nan64 n)
  where
    at : (t : Bool) → float_bits (cond t (trees.nan64 n) (trees.number n)) ≡ n
    at true = refl
    at false = refl

-- what is made of what was read
abbrev Shows : Option Value → Leaf → Type 0
Shows x v = x ≡ value_by (sort_of v)

made : {A : Type 0} (f : A → Leaf) (o : Out A) (x : Option Value) {v : Leaf} {fs : List Flaw} {r : List ℕ} → make value (make f o) ≡ got (value v) fs r
    → ((a : A) (gs : List Flaw) (q : List ℕ) → o ≡ got a gs q → Shows x (f a)) → Shows x v
made f o x {v} h k = bind_got (make f o) _ h λ u es q gs e i _. bind_got o _ e λ a es' q' gs' e' i' _.
    let z : f a ≡ v = cc in subst (Shows x) z (k a es' q' e')

abbrev got_leaf : Leaf → List Flaw → List ℕ → Out Head
got_leaf v fs r = got (value v) fs r

same : (u : Leaf) (x : Option Value) {v : Leaf} {es fs : List Flaw} {r q : List ℕ} → got_leaf u es r ≡ got_leaf v fs q → Shows x u → Shows x v
same u x {v} h k = let z : u ≡ v = cc in subst (Shows x) z k

sized_made : (p : List ℕ → Out Leaf) (s : List ℕ) (x : Option Value) {v : Leaf} {fs : List Flaw} {r : List ℕ} → make value (sized p s) ≡ got (value v) fs r
    → ((b : List ℕ) (u : Leaf) (gs : List Flaw) → p b ≡ got u gs [] → Shows x u) → Shows x v
sized_made p s x {v} h k = bind_got (sized p s) _ h λ u es q gs e i _. sized_got p s e λ pre b gs' j _ _. let z : u ≡ v = cc in subst (Shows x) z (k b u gs' j)

pub leaf_value : (k : Kind) (s : List ℕ) {v : Leaf} {fs : List Flaw} → head k s ≡ got (value v) fs [] → Shows (value_in (id k) s) v
unfolding head payload
leaf_value Null s h = same null None h refl
leaf_value Object s h = let z = (head_contained Object s h).1 in clash (cc)
leaf_value UniformObject s h = let z = (head_contained UniformObject s h).1 in clash (cc)
leaf_value Array s h = let z = (head_contained Array s h).1 in clash (cc)
leaf_value UniformArray s h = let z = (head_contained UniformArray s h).1 in clash (cc)
leaf_value Binary s h = made binary (sized rest s) None h λ a gs q e. refl
leaf_value String s h = made string (read_text s) None h λ a gs q e. refl
leaf_value IntegerPositive s h = made (λ m. integer (pos m)) (read_var_uint s) (integer_in false (var_uint s)) h λ a gs q e. number_is false s e
leaf_value IntegerNegative s {v} h = bind_got (bind (read_var_uint s) λ m r. raise (not (ltb m (2 ^ 63))) Low (got (integer (minus_plus_one m)) [] r)) _ h
    λ u es q gs e i _.
    bind_got (read_var_uint s) _ e λ m es' q' gs' e' i' _. raise_got (not (ltb m (2 ^ 63))) Low (got (integer (minus_plus_one m)) [] q') i' λ _ j.
    let z : integer (negsuc m) ≡ v = cc in subst (Shows (integer_in true (var_uint s))) z (number_is true s e')
leaf_value Float32 s h = made (λ b. float (float32 (from_bytes b))) (fixed 4 s) (float32_in (fixed32 s)) h λ a gs q e.
    let w = fixed_is 4 s e in rw (w.0, w.1, bits32 (from_bytes a))
leaf_value Float64 s {v} h = bind_got (bind (fixed 8 s) λ b r. raise (holds (from_bytes b)) Wide (got (float (float64 (from_bytes b))) [] r)) _ h
    λ u es q gs e i _. bind_got (fixed 8 s) _ e λ b es' q' gs' e' i' _.
    raise_got (holds (from_bytes b)) Wide (got (float (float64 (from_bytes b))) [] q') i' λ _ j.
    let w = fixed_is 8 s e' in
    let z : float (float64 (from_bytes b)) ≡ v = cc in
    subst (Shows (float64_in (fixed64 s))) z (rw (w.0, w.1, bits64 (from_bytes b)))
leaf_value False s h = same (bool false) None h refl
leaf_value True s h = same (bool true) None h refl
leaf_value ObjectAttachment s h = made object_attachment (fixed 20 s) None h λ a gs q e. refl
leaf_value BinaryAttachment s h = made binary_attachment (fixed 20 s) None h λ a gs q e. refl
leaf_value Hash s h = made hash (fixed 20 s) None h λ a gs q e. refl
leaf_value Uuid s h = made uuid (fixed 16 s) None h λ a gs q e. refl
leaf_value DateTime s h = made (λ b. date_time (from_twos (from_bytes b))) (fixed 8 s) (time_in (fixed64 s)) h λ a gs q e.
    let w = fixed_is 8 s e in rw (w.0, w.1)
leaf_value TimeSpan s h = made (λ b. time_span (from_twos (from_bytes b))) (fixed 8 s) (time_in (fixed64 s)) h λ a gs q e.
    let w = fixed_is 8 s e in rw (w.0, w.1)
leaf_value ObjectId s h = made object_id (fixed 12 s) None h λ a gs q e. refl
leaf_value CustomById s h = sized_made read_custom_by_id s None h λ b u gs i.
    bind_got (read_var_uint b) _ i λ n es q gs' e j _. let z : custom_by_id n q ≡ u = cc in subst (Shows None) z refl
leaf_value CustomByName s h = sized_made read_custom_by_name s None h λ b u gs i.
    bind_got (read_text b) _ i λ n es q gs' e j _. let z : custom_by_name n q ≡ u = cc in subst (Shows None) z refl
