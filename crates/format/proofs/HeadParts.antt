-- What stands before a field's contents is local; a front ends with the name; the contents end where the payload ends; and a field takes a byte at least.
use Rattle.std.specs.Prelude.{Option, None, Some}
use Prim.Native.Nat.{ℕ, ◌^◌, ◌<◌}
use native.Mathlib.Omega.{arith}
use mathlib.Core.Path.{◌≡◌, refl, sym, ap, ◌∙◌}
use mathlib.Core.Bool.{false, not}
use mathlib.Core.List.{List, [], ◌∷◌, ◌++◌, append_assoc}
use lib.ListN.{length, length-append}
use lib.Dec.{ltb}
use lib.IntN.{pos, negsuc}
use Rattle.number.specs.BigEndian.{from_bytes}
use Rattle.text.specs.Utf8.{is_text}
use Rattle.float.specs.Rule.{holds}
use Rattle.format.specs.declared.Kind.{Kind}
use Rattle.format.specs.declared.Mark.{Mark}
use Rattle.format.specs.declared.Mark.TheVariants.{OfTop, OfField, OfItem, SharedByFields, SharedByItems}
use Rattle.format.specs.declared.Form.{Form}
use Rattle.format.specs.declared.Form.TheVariants.{Top, Field, Item, SharedField, SharedItem}
use Rattle.format.specs.Kinds.{type_byte, kind_at, is_bare}
use Rattle.format.specs.declared.Flaw.{Flaw}
use Rattle.format.specs.declared.Flaw.TheVariants.{Low, Wide, NotUtf8, Blank}
use Rattle.format.specs.Parse.{Out, got, bind, raise, make, read_var_uint, fixed, sized, rest}
use Rattle.format.specs.Names.{is_empty, read_text, read_name}
use Rattle.format.specs.Tree.{Leaf, integer, float, binary, string}
use Rattle.format.specs.Payload.{Shape, nothing, bytes, text, positive, negative, wide, behind, shape_of, payload_in, kind_found, read_type, front, float64}
use Rattle.format.specs.Payload.{read_negative, read_float64, read_custom_by_id, read_custom_by_name, Payload, leaf, fields, shared_fields, items, shared_items}
use Rattle.format.specs.Payload.{payload, head_by, Head, value, fields_in, items_in, read_shared_fields, read_shared_items, read_fields, read_items, head}
use Rattle.format.specs.declared.Inner.TheVariants as I
use Rattle.format.proofs.Back.{never}
use Rattle.format.proofs.SharedKind.{shared_fields_got, shared_items_got}
use Rattle.format.proofs.Local.{bind_got, raise_got, Local, local_bind, local_got, local_raise, local_make, local_number, local_fixed, local_sized}
use Rattle.format.proofs.Local.{sized_got}

-- ---- local

pub local_text : Local read_text
local_text = local_bind (sized rest) (λ t r. raise (not (is_text t)) NotUtf8 (got t [] r)) (local_sized rest) (λ t. local_raise (not (is_text t)) NotUtf8 t)

local_name : Local read_name
local_name = local_bind read_text (λ n r. raise (is_empty n) Blank (got n [] r)) local_text (λ n. local_raise (is_empty n) Blank n)

local_negative : Local read_negative
local_negative = local_bind read_var_uint (λ m r. raise (not (ltb m (2 ^ 63))) Low (got (integer (negsuc m)) [] r)) local_number
    (λ m. local_raise (not (ltb m (2 ^ 63))) Low (integer (negsuc m)))

local_float64 : Local read_float64
local_float64 = local_bind (fixed 8) (λ b r. raise (holds (from_bytes b)) Wide (got (float (float64 (from_bytes b))) [] r)) (local_fixed 8)
    (λ b. local_raise (holds (from_bytes b)) Wide (float (float64 (from_bytes b))))

local_shape : (f : Shape) → Local (head_by (payload_in f))
local_shape (nothing v) = local_make value (λ s. got v [] s) (local_got v)
local_shape (bytes n made) = local_make value (λ s. make made (fixed n s)) (local_make made (fixed n) (local_fixed n))
local_shape text = local_make value (λ s. make string (read_text s)) (local_make string read_text local_text)
local_shape positive = local_make value (λ s. make (λ m. integer (pos m)) (read_var_uint s)) (local_make (λ m. integer (pos m)) read_var_uint local_number)
local_shape negative = local_make value read_negative local_negative
local_shape wide = local_make value read_float64 local_float64
local_shape (behind I.Bytes) = local_make value (λ s. make binary (sized rest s)) (local_make binary (sized rest) (local_sized rest))
local_shape (behind I.ById) = local_make value (sized read_custom_by_id) (local_sized read_custom_by_id)
local_shape (behind I.ByName) = local_make value (sized read_custom_by_name) (local_sized read_custom_by_name)
local_shape (behind I.Fields) = local_sized read_fields
local_shape (behind I.SharedFields) = local_sized read_shared_fields
local_shape (behind I.Items) = local_sized read_items
local_shape (behind I.SharedItems) = local_sized (λ b. bind (read_var_uint b) read_shared_items)

pub local_head : (k : Kind) → Local (head k)
unfolding head payload
local_head k = local_shape (shape_of k)

-- ---- a front: what stands last is the name

abbrev pub Fronted : List ℕ → List ℕ × Kind → List ℕ → Type 0
Fronted s x q = (w : List ℕ) × (s ≡ w ++ (x.0 ++ q))

name_ends : (s : List ℕ) {n : List ℕ} {fs : List Flaw} {q : List ℕ} → read_name s ≡ got n fs q → ((w : List ℕ) × (s ≡ w ++ (n ++ q))) × (length q < length s)
name_ends s {n} {fs} {q} h =
    bind_got (read_text s) _ h λ b es r gs e i _. raise_got (is_empty b) Blank (got b [] r) i λ _ j.
    bind_got (sized rest s) _ e λ c es' r' gs' e' i' _. raise_got (not (is_text c)) NotUtf8 (got c [] r') i' λ _ j'.
    sized_got rest s e' λ pre v _ m es l.
    let z : n ≡ v = cc in
    let y : q ≡ r' = cc in
    ((pre, rw (z, y) es), rw y (omega (arith, simp length-append at (ap length es))))

type_ends : (m : Mark) (s : List ℕ) {k : Kind} {fs : List Flaw} {q : List ℕ} → read_type m s ≡ got k fs q → (b : ℕ) × (s ≡ b ∷ q)
type_ends m [] h = never h
type_ends m (b ∷ s) {k} {fs} {q} h = go (kind_at m b) h
  where
    go : (o : Option Kind) → kind_found o s ≡ got k fs q → (c : ℕ) × (b ∷ s ≡ c ∷ q)
    go None h = never h
    go (Some l) h = (b, cc)

-- a form that has a byte of its own before the payload
abbrev pub Taken : Form → List ℕ → List ℕ → Type 0
Taken Top s q = length q < length s
Taken Field s q = length q < length s
Taken Item s q = length q < length s
Taken (SharedField k) s q = length q < length s
Taken (SharedItem k) s q = s ≡ q

plain_takes : (m : Mark) (s : List ℕ) {x : List ℕ × Kind} {fs : List Flaw} {q : List ℕ} → (bind (read_type m s) λ k r. got ([], k) [] r) ≡ got x fs q
    → Fronted s x q × (length q < length s)
plain_takes m s {x} {fs} {q} h = bind_got (read_type m s) _ h λ k es r gs e i _.
    let j = type_ends m s e in
    let z : x ≡ ([], k) = cc in
    let y : r ≡ q = cc in
    rw z ((j.0 ∷ [], j.1 ∙ ap (λ t. j.0 ∷ t) y), omega (arith, ap length j.1, ap length y))

pub front_takes : (f : Form) (s : List ℕ) {x : List ℕ × Kind} {fs : List Flaw} {q : List ℕ} → front f s ≡ got x fs q → Fronted s x q × Taken f s q
unfolding front
front_takes Top s h = plain_takes OfTop s h
front_takes Item s h = plain_takes OfItem s h
front_takes Field s {x} {fs} {q} h = bind_got (read_type OfField s) _ h λ k es r gs e i _. bind_got (read_name r) _ i λ n es' u gs' e' i' _.
    let j = type_ends OfField s e in
    let l = name_ends r e' in
    let z : x ≡ (n, k) = cc in
    let y : u ≡ q = cc in
    rw (z, ← y) ((j.0 ∷ l.0.0, j.1 ∙ ap (λ t. j.0 ∷ t) l.0.1), rw j.1 (omega (arith, l.1)))
front_takes (SharedField k) s {x} {fs} {q} h = bind_got (read_name s) _ h λ n es u gs e i _.
    let l = name_ends s e in
    let z : x ≡ (n, k) = cc in
    let y : u ≡ q = cc in
    rw (z, ← y) (l.0, l.1)
front_takes (SharedItem k) s {x} {fs} {q} h =
    let z : x ≡ ([], k) = cc in
    let y : s ≡ q = cc in
    rw z (([], y), y)

-- ---- the contents

-- the items of a uniform array are not bare
abbrev pub Full : Form → Type 0
Full Top = Unit {0}
Full Field = Unit {0}
Full Item = Unit {0}
Full (SharedField k) = Unit {0}
Full (SharedItem k) = is_bare k ≡ false

-- the contents stand in s and end where r begins
abbrev pub Body : List ℕ → Head → List ℕ → Type 0
Body s (value v) r = Unit {0}
Body s (fields_in f b) r = ((w : List ℕ) × (s ≡ w ++ (b ++ r))) × Full f
Body s (items_in f n b) r = ((w : List ℕ) × (s ≡ w ++ (b ++ r))) × Full f

nil : (s : List ℕ) → s ++ [] ≡ s
nil [] = refl
nil (x ∷ s) = ap (λ l. x ∷ l) (nil s)

-- of a sized part: its body, and what follows the part
ended : (s pre b r : List ℕ) (h : Head) → s ≡ pre ++ (b ++ r) → Body b h [] → Body s h r
ended s pre b r (value v) e i = tt
ended s pre b r (fields_in f c) e i =
    let z : b ≡ i.0.0 ++ c = rw (← nil c) i.0.1 in
    ((pre ++ i.0.0, rw append_assoc (rw (z, append_assoc i.0.0 c r) at e)), i.1)
ended s pre b r (items_in f n c) e i =
    let z : b ≡ i.0.0 ++ c = rw (← nil c) i.0.1 in
    ((pre ++ i.0.0, rw append_assoc (rw (z, append_assoc i.0.0 c r) at e)), i.1)

body_sized : (p : List ℕ → Out Head) → ((b : List ℕ) (h : Head) (gs : List Flaw) → p b ≡ got h gs [] → Body b h [])
    → (s : List ℕ) {h : Head} {fs : List Flaw} {r : List ℕ} → sized p s ≡ got h fs r → Body s h r
body_sized p f s {h} {fs} {r} e = sized_got p s e λ pre b gs i es l. ended s pre b r h es (f b h gs i)

fields_body : (b : List ℕ) (h : Head) (gs : List Flaw) → read_fields b ≡ got h gs [] → Body b h []
fields_body b h gs e = let z : h ≡ fields_in Field b = cc in rw z (([], sym (nil b)), tt)

items_body : (b : List ℕ) (h : Head) (gs : List Flaw) → read_items b ≡ got h gs [] → Body b h []
items_body b h gs e = bind_got (read_var_uint b) _ e λ n es q gs' i k _.
    let z : h ≡ items_in Item n q = cc in
    let x = local_number b n es q i in
    rw z ((x.0, rw (nil q) x.1), tt)

shared_fields_body : (b : List ℕ) (h : Head) (gs : List Flaw) → read_shared_fields b ≡ got h gs [] → Body b h []
shared_fields_body b h gs e = shared_fields_got b e λ k c s eb eh.
    rw (eh, eb) ((type_byte SharedByFields k ∷ [], ap (λ l. type_byte SharedByFields k ∷ c ∷ l) (sym (nil s))), tt)

-- behind a count
shared_items_body : (b : List ℕ) (h : Head) (gs : List Flaw) → bind (read_var_uint b) read_shared_items ≡ got h gs [] → Body b h []
shared_items_body b h gs e = bind_got (read_var_uint b) _ e λ n es q gs' i j _. shared_items_got n q j λ k m s en eq full eh.
    let x = local_number b n es q i in
    let y : b ≡ x.0 ++ (type_byte SharedByItems k ∷ s) = x.1 ∙ ap (λ q. x.0 ++ q) eq in
    rw eh ((x.0 ++ (type_byte SharedByItems k ∷ []), rw (nil s) (y ∙ sym (append_assoc x.0 (type_byte SharedByItems k ∷ []) s))), full)

value_body : (s : List ℕ) (o : Out Leaf) {h : Head} {fs : List Flaw} {r : List ℕ} → make value o ≡ got h fs r → Body s h r
value_body s o {h} e = bind_got o _ e λ v es q gs i k _. let z : h ≡ value v = cc in rw z tt

pub head_body : (k : Kind) (s : List ℕ) {h : Head} {fs : List Flaw} {r : List ℕ} → head k s ≡ got h fs r → Body s h r
unfolding head
head_body k s {h} {fs} {r} e = by (payload k) e
  where
    by : (p : Payload) → head_by p s ≡ got h fs r → Body s h r
    by (leaf p) e = value_body s (p s) e
    by fields e = body_sized read_fields fields_body s e
    by shared_fields e = body_sized read_shared_fields shared_fields_body s e
    by items e = body_sized read_items items_body s e
    by shared_items e = body_sized (λ b. bind (read_var_uint b) read_shared_items) shared_items_body s e
