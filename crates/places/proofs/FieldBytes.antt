-- What the bytes of a field are: before its name, by how it stands; a size and what it counts; and that a field takes a byte at least.
use Rattle.std.specs.Prelude.{Option, None, Some}
use Prim.Native.Nat.{ℕ, ◌^◌, ◌<◌}
use native.Mathlib.Omega.{arith}
use mathlib.Core.Path.{◌≡◌, refl, sym, ap, ◌∙◌, subst}
use mathlib.Core.Bool.{Bool, true, false, not, cond}
use mathlib.Core.List.{List, [], ◌∷◌, ◌++◌}
use lib.ListN.{length, take, drop, length-append, take-append-drop}
use lib.Seq.{length-take-le}
use lib.Dec.{ltb}
use lib.IntN.{pos, negsuc}
use borrow.Author.Tests.{ltb-false}
use Rattle.number.specs.BigEndian.{from_bytes}
use Rattle.number.specs.Signed.{from_twos}
use Rattle.number.specs.VarUInt.{var_uint}
use Rattle.number.proofs.NumberThenLaws.{number_both}
use Rattle.text.specs.Utf8.{is_text}
use Rattle.float.specs.Rule.{holds}
use Rattle.format.specs.declared.Kind.{Kind}
use Rattle.format.specs.declared.Kind.TheVariants.{Null, Object, UniformObject, Array, UniformArray, Binary, String, IntegerPositive, IntegerNegative}
use Rattle.format.specs.declared.Kind.TheVariants.{Float32, Float64, False, True, ObjectAttachment, BinaryAttachment, Hash, Uuid, DateTime, TimeSpan}
use Rattle.format.specs.declared.Kind.TheVariants.{ObjectId, CustomById, CustomByName}
use Rattle.format.specs.declared.Mark.{Mark}
use Rattle.format.specs.declared.Mark.TheVariants.{OfTop, OfField, OfItem}
use Rattle.format.specs.declared.Form.{Form}
use Rattle.format.specs.declared.Form.TheVariants.{Top, Field, Item, SharedField, SharedItem}
use Rattle.format.specs.declared.Stop.TheVariants.{Early}
use Rattle.format.specs.Kinds.{type_byte, kind_at, is_bare}
use Rattle.format.specs.declared.Flaw.{Flaw}
use Rattle.format.specs.declared.Flaw.TheVariants.{Long, Low, Wide, NotUtf8, Blank}
use Rattle.format.specs.Parse.{Out, fault, got, bind, raise, make, whole, read_var_uint, fixed, sized, rest}
use Rattle.format.specs.Names.{is_empty, read_text, read_name}
use Rattle.format.specs.Tree.{Leaf, integer, float, binary, string, object_attachment, binary_attachment, hash, uuid, object_id, date_time, time_span}
use Rattle.format.specs.Payload.{kind_found, read_type, front, float32, float64, read_negative, read_float64, read_custom_by_id, read_custom_by_name, payload, Head}
use Rattle.format.specs.Payload.{value, read_shared_fields, read_shared_items, read_fields, read_items, head}
use Rattle.places.specs.Places.{taken}
use Rattle.places.specs.Show.{Reads}
use Rattle.format.proofs.Lists.{append_nil}
use Rattle.format.proofs.Back.{never}
use Rattle.format.proofs.KindLaws.{kind_inv}
use Rattle.format.proofs.Local.{bind_got, raise_got, whole_got, local_number, local_le, number_takes, sized_got}
use Rattle.format.proofs.HeadParts.{local_head, front_takes, Full}
use Rattle.number.proofs.Clash.{clash}

-- ---- a size and what it counts

pub number_taken : (s : List ℕ) {v : ℕ} {fs : List Flaw} {r : List ℕ} → read_var_uint s ≡ got v fs r → drop (taken (var_uint s)) s ≡ r
unfolding read_var_uint
number_taken s {v} {fs} {r} =
    number_both (λ o n. o ≡ got v fs r → drop n s ≡ r) (fault Early) _ 0 _ s never (λ u n x e h. raise_got (not x) Long (got u [] (drop n s)) h λ gs k. cc)

-- the size w, the bytes b that it counts, and what follows
pub sized_read : {A X : Type 0} (p : List ℕ → Out A) (s : List ℕ) {a : A} {fs : List Flaw} {r : List ℕ} → sized p s ≡ got a fs r
    → ((w b : List ℕ) (gs : List Flaw) → p b ≡ got a gs [] → s ≡ w ++ (b ++ r) → Reads read_var_uint w (length b) → drop (taken (var_uint s)) s ≡ b ++ r
    → length (b ++ r) < length s → X) → X
sized_read {A} {X} p s {a} {fs} {r} h c = bind_got (read_var_uint s) _ h λ n es q gs e k _. let w = local_number s n es q e in
    go n q gs w.0 w.1 (es, rw (append_nil w.0) at (w.2 [])) (number_taken s e) (number_takes s e) (ltb (length q) n) refl k
  where
    go : (n : ℕ) (q : List ℕ) (gs : List Flaw) (w : List ℕ) → s ≡ w ++ q → Reads read_var_uint w n → drop (taken (var_uint s)) s ≡ q → length q < length s
        → (x : Bool) → ltb (length q) n ≡ x → cond x (fault Early) (whole (p (take n q)) (drop n q)) ≡ got a gs r → X
    go n q gs w e f d l true t h = never h
    go n q gs w e f d l false t h = whole_got (p (take n q)) (drop n q) h λ i j.
        let m : length (take n q) ≡ n = length-take-le n q (ltb-false (length q) n t) in
        let z : q ≡ take n q ++ r = rw (← j) (sym (take-append-drop n q)) in
        c w (take n q) gs i (e ∙ ap (λ t. w ++ t) z) (rw m f) (d ∙ z) (rw (← z) l)

-- ---- before a field's name

-- by how it stands
abbrev pub Stood : Form → Kind → List ℕ → List ℕ → Type 0
Stood Top k n b = b ≡ type_byte OfTop k ∷ []
Stood Field k n b = (t : List ℕ) × (b ≡ type_byte OfField k ∷ t) × Reads read_var_uint t (length n)
Stood Item k n b = b ≡ type_byte OfItem k ∷ []
Stood (SharedField j) k n b = Reads read_var_uint b (length n)
Stood (SharedItem j) k n b = b ≡ []

abbrev pub Fronting : Form → List ℕ → List ℕ × Kind → List ℕ → Type 0
Fronting f s x q = (w : List ℕ) × (s ≡ w ++ (x.0 ++ q)) × Stood f x.1 x.0 w

name_read : (s : List ℕ) {n : List ℕ} {fs : List Flaw} {q : List ℕ} → read_name s ≡ got n fs q
    → (w : List ℕ) × (s ≡ w ++ (n ++ q)) × Reads read_var_uint w (length n)
name_read s {n} {fs} {q} h =
    bind_got (read_text s) _ h λ b es r gs e i _. raise_got (is_empty b) Blank (got b [] r) i λ _ j.
    bind_got (sized rest s) _ e λ c es' r' gs' e' i' _. raise_got (not (is_text c)) NotUtf8 (got c [] r') i' λ _ j'.
    sized_read rest s e' λ w v _ m es f _ _.
    let z : v ≡ n = cc in
    let y : r' ≡ q = cc in
    (w, rw (z, y) at es, rw z at f)

type_read : (m : Mark) (s : List ℕ) {k : Kind} {fs : List Flaw} {q : List ℕ} → read_type m s ≡ got k fs q → s ≡ type_byte m k ∷ q
type_read m [] h = never h
type_read m (b ∷ s) {k} {fs} {q} h = go (kind_at m b) refl h
  where
    go : (o : Option Kind) → kind_at m b ≡ o → kind_found o s ≡ got k fs q → b ∷ s ≡ type_byte m k ∷ q
    go None e h = never h
    go (Some l) e h =
        let z : l ≡ k = cc in
        let y : s ≡ q = cc in
        rw (← z, kind_inv m b l e, y)

plain_read : (m : Mark) (s : List ℕ) {x : List ℕ × Kind} {fs : List Flaw} {q : List ℕ} → (bind (read_type m s) λ k r. got ([], k) [] r) ≡ got x fs q
    → (w : List ℕ) × (s ≡ w ++ (x.0 ++ q)) × (w ≡ type_byte m x.1 ∷ [])
plain_read m s {x} {fs} {q} h = bind_got (read_type m s) _ h λ k es r gs e i _.
    let z : x ≡ ([], k) = cc in
    let y : r ≡ q = cc in
    rw z (type_byte m k ∷ [], type_read m s e ∙ ap (λ t. type_byte m k ∷ t) y, refl)

pub front_read : (f : Form) (s : List ℕ) {x : List ℕ × Kind} {fs : List Flaw} {q : List ℕ} → front f s ≡ got x fs q → Fronting f s x q
unfolding front
front_read Top s h = plain_read OfTop s h
front_read Item s h = plain_read OfItem s h
front_read Field s {x} {fs} {q} h = bind_got (read_type OfField s) _ h λ k es r gs e i _. bind_got (read_name r) _ i λ n es' u gs' e' i' _.
    let l = name_read r e' in
    let z : x ≡ (n, k) = cc in
    let y : u ≡ q = cc in
    rw (z, ← y) (type_byte OfField k ∷ l.0, type_read OfField s e ∙ ap (λ t. type_byte OfField k ∷ t) l.1, (l.0, refl, l.2))
front_read (SharedField k) s {x} {fs} {q} h = bind_got (read_name s) _ h λ n es u gs e i _.
    let l = name_read s e in
    let z : x ≡ (n, k) = cc in
    let y : u ≡ q = cc in
    rw (z, ← y) l
front_read (SharedItem k) s {x} {fs} {q} h =
    let z : x ≡ ([], k) = cc in
    let y : s ≡ q = cc in
    rw z ([], y, refl)

-- only an object's fields have names
abbrev pub Unnamed : Form → Type 0
Unnamed Top = Unit {0}
Unnamed Field = ⊥
Unnamed Item = Unit {0}
Unnamed (SharedField k) = ⊥
Unnamed (SharedItem k) = Unit {0}

plain_unnamed : (m : Mark) (s : List ℕ) {x : List ℕ × Kind} {fs : List Flaw} {q : List ℕ}
    → (bind (read_type m s) λ k r. got ([], k) [] r) ≡ got x fs q → x.0 ≡ []
plain_unnamed m s {x} h = bind_got (read_type m s) _ h λ k es r gs i j _. let z : x ≡ ([], k) = cc in ap (λ (y : List ℕ × Kind). y.0) z

pub front_unnamed : (f : Form) (s : List ℕ) {x : List ℕ × Kind} {fs : List Flaw} {q : List ℕ} → Unnamed f → front f s ≡ got x fs q → x.0 ≡ []
unfolding front
front_unnamed Top s u h = plain_unnamed OfTop s h
front_unnamed Field s u h = absurd u
front_unnamed Item s u h = plain_unnamed OfItem s h
front_unnamed (SharedField k) s u h = absurd u
front_unnamed (SharedItem k) s {x} u h = let z : x ≡ ([], k) = cc in ap (λ (y : List ℕ × Kind). y.0) z

-- the kind that is shared
abbrev pub Sharing : Form → Kind → Type 0
Sharing Top k = Unit {0}
Sharing Field k = Unit {0}
Sharing Item k = Unit {0}
Sharing (SharedField j) k = k ≡ j
Sharing (SharedItem j) k = k ≡ j

pub front_sharing : (f : Form) (s : List ℕ) {x : List ℕ × Kind} {fs : List Flaw} {q : List ℕ} → front f s ≡ got x fs q → Sharing f x.1
unfolding front
front_sharing Top s h = tt
front_sharing Field s h = tt
front_sharing Item s h = tt
front_sharing (SharedField k) s {x} h = bind_got (read_name s) _ h λ n es u gs e i _. let z : x ≡ (n, k) = cc in ap (λ (y : List ℕ × Kind). y.1) z
front_sharing (SharedItem k) s {x} h = let z : x ≡ ([], k) = cc in ap (λ (y : List ℕ × Kind). y.1) z

-- ---- a byte at least

pub fixed_got : {X : Type 0} (n : ℕ) (s : List ℕ) {b : List ℕ} {fs : List Flaw} {r : List ℕ} → fixed n s ≡ got b fs r → (s ≡ b ++ r → length b ≡ n → X) → X
unfolding fixed
fixed_got {X} n s {b} {fs} {r} h c = go (ltb (length s) n) refl h
  where
    go : (x : Bool) → ltb (length s) n ≡ x → cond x (fault Early) (got (take n s) [] (drop n s)) ≡ got b fs r → X
    go true e h = never h
    go false e h =
        let y : take n s ≡ b = cc in
        c (cc (take-append-drop n s)) (rw y at (length-take-le n s (ltb-false (length s) n e)))

pub sized_takes : {A : Type 0} (p : List ℕ → Out A) (s : List ℕ) {a : A} {fs : List Flaw} {r : List ℕ} → sized p s ≡ got a fs r → length r < length s
sized_takes p s h = sized_got p s h λ pre b gs e es l. omega (arith, simp length-append at (ap length es))

text_takes : (s : List ℕ) {b : List ℕ} {fs : List Flaw} {r : List ℕ} → read_text s ≡ got b fs r → length r < length s
text_takes s {b} {fs} {r} h = bind_got (sized rest s) _ h λ a es q gs e k _. raise_got (not (is_text a)) NotUtf8 (got a [] q) k λ _ j.
    let z : q ≡ r = cc in omega (arith, sized_takes rest s e, ap length z)

-- where it reads, it uses up a byte at least
abbrev pub Takes : {A : Type 0} → (List ℕ → Out A) → Type 0
Takes {A} p = (s : List ℕ) (a : A) (fs : List Flaw) (r : List ℕ) → p s ≡ got a fs r → length r < length s

-- a reader of leaves takes what the reader takes that it is made of
takes_make : {A B : Type 0} (f : A → B) (p : List ℕ → Out A) → Takes p → Takes (λ s. make f (p s))
takes_make f p t s a fs r h = bind_got (p s) (λ a q. got (f a) [] q) h λ b es q gs e k _. let z : q ≡ r = cc in omega (arith, t s b es q e, ap length z)

takes_raise : {A B : Type 0} (x : A → Bool) (w : Flaw) (f : A → B) (p : List ℕ → Out A) → Takes p
    → Takes (λ s. bind (p s) λ a q. raise (x a) w (got (f a) [] q))
takes_raise x w f p t s a fs r h = bind_got (p s) (λ a q. raise (x a) w (got (f a) [] q)) h λ b es q gs e k _. raise_got (x b) w (got (f b) [] q) k λ _ j.
    let z : q ≡ r = cc in omega (arith, t s b es q e, ap length z)

takes_fixed : (n : ℕ) → 0 < n → Takes (fixed n)
takes_fixed n l s b fs r h = fixed_got n s h λ e m. omega (arith, simp length-append at (ap length e))

takes_bytes : (n : ℕ) → 0 < n → (made : List ℕ → Leaf) → Takes (λ s. make value (make made (fixed n s)))
takes_bytes n l made = takes_make value (λ s. make made (fixed n s)) (takes_make made (fixed n) (takes_fixed n l))

bare_never : {X : Type 0} → true ≡ false → X
bare_never h = clash (cc)

head_takes : (k : Kind) (s : List ℕ) {h : Head} {fs : List Flaw} {r : List ℕ} → is_bare k ≡ false → head k s ≡ got h fs r → length r < length s
unfolding head payload is_bare
head_takes Null s b e = bare_never b
head_takes Object s b e = sized_takes read_fields s e
head_takes UniformObject s b e = sized_takes read_shared_fields s e
head_takes Array s b e = sized_takes read_items s e
head_takes UniformArray s b e = sized_takes (λ b. bind (read_var_uint b) read_shared_items) s e
head_takes Binary s {h} {fs} {r} b e =
    takes_make value (λ s. make binary (sized rest s)) (takes_make binary (sized rest) (λ s a fs r h. sized_takes rest s h)) s h fs r e
head_takes String s {h} {fs} {r} b e = takes_make value (λ s. make string (read_text s)) (takes_make string read_text (λ s a fs r h. text_takes s h)) s h fs r e
head_takes IntegerPositive s {h} {fs} {r} b e = takes_make value (λ s. make (λ m. integer (pos m)) (read_var_uint s))
    (takes_make (λ m. integer (pos m)) read_var_uint (λ s a fs r h. number_takes s h)) s h fs r e
head_takes IntegerNegative s {h} {fs} {r} b e = takes_make value read_negative
    (takes_raise (λ m. not (ltb m (2 ^ 63))) Low (λ m. integer (negsuc m)) read_var_uint (λ s a fs r h. number_takes s h)) s h fs r e
head_takes Float32 s {h} {fs} {r} b e = takes_bytes 4 (omega arith) (λ b. float (float32 (from_bytes b))) s h fs r e
head_takes Float64 s {h} {fs} {r} b e = takes_make value read_float64
    (takes_raise (λ b. holds (from_bytes b)) Wide (λ b. float (float64 (from_bytes b))) (fixed 8) (takes_fixed 8 (omega arith))) s h fs r e
head_takes False s b e = bare_never b
head_takes True s b e = bare_never b
head_takes ObjectAttachment s {h} {fs} {r} b e = takes_bytes 20 (omega arith) object_attachment s h fs r e
head_takes BinaryAttachment s {h} {fs} {r} b e = takes_bytes 20 (omega arith) binary_attachment s h fs r e
head_takes Hash s {h} {fs} {r} b e = takes_bytes 20 (omega arith) hash s h fs r e
head_takes Uuid s {h} {fs} {r} b e = takes_bytes 16 (omega arith) uuid s h fs r e
head_takes DateTime s {h} {fs} {r} b e = takes_bytes 8 (omega arith) (λ b. date_time (from_twos (from_bytes b))) s h fs r e
head_takes TimeSpan s {h} {fs} {r} b e = takes_bytes 8 (omega arith) (λ b. time_span (from_twos (from_bytes b))) s h fs r e
head_takes ObjectId s {h} {fs} {r} b e = takes_bytes 12 (omega arith) object_id s h fs r e
head_takes CustomById s {h} {fs} {r} b e = takes_make value (sized read_custom_by_id) (λ s a fs r h. sized_takes read_custom_by_id s h) s h fs r e
head_takes CustomByName s {h} {fs} {r} b e = takes_make value (sized read_custom_by_name) (λ s a fs r h. sized_takes read_custom_by_name s h) s h fs r e

pub field_takes : (f : Form) (s : List ℕ) {x : List ℕ × Kind} {fs gs : List Flaw} {q u : List ℕ} {h : Head} → Full f → front f s ≡ got x fs q
    → head x.1 q ≡ got h gs u → length u < length s
unfolding front
field_takes Top s {x} {fs} {gs} {q} b e i = omega (arith, (front_takes Top s e).1, local_le (head x.1) (local_head x.1) q i)
field_takes Field s {x} {fs} {gs} {q} b e i = omega (arith, (front_takes Field s e).1, local_le (head x.1) (local_head x.1) q i)
field_takes Item s {x} {fs} {gs} {q} b e i = omega (arith, (front_takes Item s e).1, local_le (head x.1) (local_head x.1) q i)
field_takes (SharedField k) s {x} {fs} {gs} {q} b e i = omega (arith, (front_takes (SharedField k) s e).1, local_le (head x.1) (local_head x.1) q i)
field_takes (SharedItem k) s {x} {fs} {gs} {q} {u} {h} b e i =
    let z : x ≡ ([], k) = cc in
    let y : q ≡ s = cc in
    let j : head k q ≡ got h gs u = subst (λ (c : List ℕ × Kind). head c.1 q ≡ got h gs u) z i in
    rw y at (head_takes k q b j)
