-- Which flaws reading can meet: in a name, and in a leaf. Where none of these is met, there is none at all.
use Prim.Native.Nat.{ℕ, ◌^◌}
use mathlib.Core.Path.{◌≡◌, refl, sym, ◌∙◌}
use mathlib.Core.Bool.{Bool, true, false, not, cond}
use mathlib.Core.List.{List, [], ◌∷◌, ◌++◌}
use lib.ListN.{length, take, drop}
use lib.Dec.{ltb}
use lib.IntN.{pos, negsuc}
use Rattle.number.proofs.Clash.{clash}
use Rattle.number.specs.BigEndian.{All, from_bytes}
use Rattle.number.specs.Signed.{from_twos}
use Rattle.number.proofs.NumberThenLaws.{number_all}
use Rattle.text.specs.Utf8.{is_text}
use Rattle.format.specs.declared.Kind.{Kind}
use Rattle.format.specs.declared.Kind.TheVariants.{Null, Object, UniformObject, Array, UniformArray, Binary, String, IntegerPositive, IntegerNegative}
use Rattle.format.specs.declared.Kind.TheVariants.{Float32, Float64, False, True, ObjectAttachment, BinaryAttachment, Hash, Uuid, DateTime, TimeSpan}
use Rattle.format.specs.declared.Kind.TheVariants.{ObjectId, CustomById, CustomByName}
use Rattle.format.specs.declared.Stop.TheVariants.{Early}
use Rattle.format.specs.Kinds.{id}
use Rattle.format.specs.Mask.{has}
use Rattle.format.specs.declared.Flaw.{Flaw}
use Rattle.format.specs.declared.Flaw.TheVariants.{Twin, Blank, Long, Low, Wide, NotUtf8, NotUniform}
use Rattle.format.specs.Parse.{Out, fault, got, with_flaws, bind, raise, make, whole, read_var_uint, fixed, sized, rest}
use Rattle.format.specs.Names.{is_empty, read_text, read_name}
use Rattle.format.specs.Tree.{Leaf, integer, float, binary, string, object_attachment, binary_attachment, hash, uuid, object_id, date_time, time_span, custom_by_id}
use Rattle.format.specs.Tree.{custom_by_name}
use Rattle.format.specs.Payload.{float32, read_custom_by_id, read_custom_by_name, Payload, leaf, fields, shared_fields, items, shared_items, payload}

pub untrue : {X : Type 0} → false ≡ true → X
untrue h = clash cc

-- only flaws that pass the test
abbrev pub Passing : (Flaw → Bool) → List Flaw → Type 0
Passing ok fs = All (λ f. ok f ≡ true) fs

abbrev pub Only : {A : Type 0} → (Flaw → Bool) → Out A → Type 0
Only ok (fault k) = Unit {0}
Only ok (got a fs r) = Passing ok fs

passing_both : (ok : Flaw → Bool) (fs gs : List Flaw) → Passing ok fs → Passing ok gs → Passing ok (fs ++ gs)
passing_both ok [] gs a b = b
passing_both ok (f ∷ fs) gs a b = (a.0, passing_both ok fs gs a.1 b)

module _ (ok : Flaw → Bool) where
  only_with : {A : Type 0} (fs : List Flaw) (o : Out A) → Passing ok fs → Only ok o → Only ok (with_flaws fs o)
  only_with [] o a b = b
  only_with (f ∷ fs) (fault k) a b = tt
  only_with (f ∷ fs) (got x gs r) a b = passing_both ok (f ∷ fs) gs a b

  only_bind : {A B : Type 0} (o : Out A) (g : A → List ℕ → Out B) → Only ok o → ((a : A) (r : List ℕ) → Only ok (g a r)) → Only ok (bind o g)
  only_bind (fault k) g a b = tt
  only_bind (got x fs r) g a b = only_with fs (g x r) a (b x r)

  only_raise : {A : Type 0} (b : Bool) (f : Flaw) (o : Out A) → ok f ≡ true → Only ok o → Only ok (raise b f o)
  only_raise true f o e a = only_with (f ∷ []) o (e, tt) a
  only_raise false f o e a = a

  only_make : {A B : Type 0} (f : A → B) (o : Out A) → Only ok o → Only ok (make f o)
  only_make f o a = only_bind o (λ x r. got (f x) [] r) a (λ x r. tt)

  only_whole : {A : Type 0} (o : Out A) (r : List ℕ) → Only ok o → Only ok (whole o r)
  only_whole (fault k) r a = tt
  only_whole (got x fs []) r a = a
  only_whole (got x fs (b ∷ bs)) r a = tt

  only_fixed : (n : ℕ) (s : List ℕ) → Only ok (fixed n s)
  unfolding fixed
  only_fixed n s = go (ltb (length s) n)
    where
      go : (b : Bool) → Only ok (cond b (fault Early) (got (take n s) [] (drop n s)))
      go true = tt
      go false = tt

  module _ (e : ok Long ≡ true) where
    only_number : (s : List ℕ) → Only ok (read_var_uint s)
    unfolding read_var_uint
    only_number s = number_all (Only ok) (fault Early) _ s tt (λ v n m i. only_raise (not m) Long (got v [] (drop n s)) e tt)

    only_sized : {A : Type 0} (p : List ℕ → Out A) → ((s : List ℕ) → Only ok (p s)) → (s : List ℕ) → Only ok (sized p s)
    only_sized p f s = only_bind (read_var_uint s) (λ n r. cond (ltb (length r) n) (fault Early) (whole (p (take n r)) (drop n r))) (only_number s) λ n r.
        go n r (ltb (length r) n)
      where
        go : (n : ℕ) (r : List ℕ) (b : Bool) → Only ok (cond b (fault Early) (whole (p (take n r)) (drop n r)))
        go n r true = tt
        go n r false = only_whole (p (take n r)) (drop n r) (f (take n r))

    only_bytes : (s : List ℕ) → Only ok (sized rest s)
    only_bytes s = only_sized rest (λ s. tt) s

    module _ (i : ok NotUtf8 ≡ true) where
      only_text : (s : List ℕ) → Only ok (read_text s)
      only_text s = only_bind (sized rest s) (λ t r. raise (not (is_text t)) NotUtf8 (got t [] r)) (only_bytes s)
          (λ t r. only_raise (not (is_text t)) NotUtf8 (got t [] r) i tt)

      only_name : ok Blank ≡ true → (s : List ℕ) → Only ok (read_name s)
      only_name j s =
          only_bind (read_text s) (λ n r. raise (is_empty n) Blank (got n [] r)) (only_text s) (λ n r. only_raise (is_empty n) Blank (got n [] r) j tt)

      -- a leaf that is no Float64
      abbrev PlainBy : Payload → Type 0
      PlainBy (leaf p) = (s : List ℕ) → Only ok (p s)
      PlainBy fields = Unit {0}
      PlainBy shared_fields = Unit {0}
      PlainBy items = Unit {0}
      PlainBy shared_items = Unit {0}

      only_leaf : ok Low ≡ true → (k : Kind) → (id k ≡ 11 → ⊥) → PlainBy (payload k)
      unfolding payload
      only_leaf j Null h = λ s. tt
      only_leaf j Object h = tt
      only_leaf j UniformObject h = tt
      only_leaf j Array h = tt
      only_leaf j UniformArray h = tt
      only_leaf j Binary h = λ s. only_make binary (sized rest s) (only_bytes s)
      only_leaf j String h = λ s. only_make string (read_text s) (only_text s)
      only_leaf j IntegerPositive h = λ s. only_make (λ m. integer (pos m)) (read_var_uint s) (only_number s)
      only_leaf j IntegerNegative h = λ s. only_bind (read_var_uint s) (λ m r. raise (not (ltb m (2 ^ 63))) Low (got (integer (negsuc m)) [] r)) (only_number s)
          (λ m r. only_raise (not (ltb m (2 ^ 63))) Low (got (integer (negsuc m)) [] r) j tt)
      only_leaf j Float32 h = λ s. only_make (λ b. float (float32 (from_bytes b))) (fixed 4 s) (only_fixed 4 s)
      only_leaf j Float64 h = absurd (h refl)
      only_leaf j False h = λ s. tt
      only_leaf j True h = λ s. tt
      only_leaf j ObjectAttachment h = λ s. only_make object_attachment (fixed 20 s) (only_fixed 20 s)
      only_leaf j BinaryAttachment h = λ s. only_make binary_attachment (fixed 20 s) (only_fixed 20 s)
      only_leaf j Hash h = λ s. only_make hash (fixed 20 s) (only_fixed 20 s)
      only_leaf j Uuid h = λ s. only_make uuid (fixed 16 s) (only_fixed 16 s)
      only_leaf j DateTime h = λ s. only_make (λ b. date_time (from_twos (from_bytes b))) (fixed 8 s) (only_fixed 8 s)
      only_leaf j TimeSpan h = λ s. only_make (λ b. time_span (from_twos (from_bytes b))) (fixed 8 s) (only_fixed 8 s)
      only_leaf j ObjectId h = λ s. only_make object_id (fixed 12 s) (only_fixed 12 s)
      only_leaf j CustomById h =
          λ s. only_sized read_custom_by_id (λ b. only_bind (read_var_uint b) (λ n r. make (custom_by_id n) (rest r)) (only_number b) (λ n r. tt)) s
      only_leaf j CustomByName h =
          λ s. only_sized read_custom_by_name (λ b. only_bind (read_text b) (λ n r. make (custom_by_name n) (rest r)) (only_text b) (λ n r. tt)) s

-- ---- none of them

has_self : (f : Flaw) (fs : List Flaw) → has f (f ∷ fs) ≡ true
has_self Twin fs = refl
has_self Blank fs = refl
has_self Long fs = refl
has_self Low fs = refl
has_self Wide fs = refl
has_self NotUtf8 fs = refl
has_self NotUniform fs = refl

none_of : (ok : Flaw → Bool) (fs : List Flaw) → Passing ok fs → ((f : Flaw) → ok f ≡ true → has f fs ≡ false) → fs ≡ []
none_of ok [] a h = refl
none_of ok (f ∷ fs) a h = untrue (sym (h f a.0) ∙ has_self f fs)

abbrev ok_name : Flaw → Bool
ok_name Twin = false
ok_name Blank = true
ok_name Long = true
ok_name Low = false
ok_name Wide = false
ok_name NotUtf8 = true
ok_name NotUniform = false

abbrev ok_leaf : Flaw → Bool
ok_leaf Twin = false
ok_leaf Blank = false
ok_leaf Long = true
ok_leaf Low = true
ok_leaf Wide = false
ok_leaf NotUtf8 = true
ok_leaf NotUniform = false

pub name_clean : (s : List ℕ) {n : List ℕ} {fs : List Flaw} {r : List ℕ} → read_name s ≡ got n fs r → has Long fs ≡ false → has Blank fs ≡ false
    → has NotUtf8 fs ≡ false → fs ≡ []
name_clean s {n} {fs} {r} h a b c = none_of ok_name fs (go (read_name s) h (only_name ok_name refl refl refl s)) by
  where
    go : (o : Out (List ℕ)) → o ≡ got n fs r → Only ok_name o → Passing ok_name fs
    go (fault k) e x = clash cc
    go (got m gs q) e x = let z : gs ≡ fs = cc in rw z at x

    by : (f : Flaw) → ok_name f ≡ true → has f fs ≡ false
    by Twin e = untrue e
    by Blank e = b
    by Long e = a
    by Low e = untrue e
    by Wide e = untrue e
    by NotUtf8 e = c
    by NotUniform e = untrue e

pub leaf_clean : (k : Kind) (p : List ℕ → Out Leaf) → (id k ≡ 11 → ⊥) → payload k ≡ leaf p → (s : List ℕ) {v : Leaf} {fs : List Flaw} {r : List ℕ}
    → p s ≡ got v fs r → has Long fs ≡ false → has Low fs ≡ false → has NotUtf8 fs ≡ false → fs ≡ []
leaf_clean k p ne e s {v} {fs} {r} h a b c = none_of ok_leaf fs (at (payload k) e (only_leaf ok_leaf refl refl refl k ne)) by
  where
    go : (o : Out Leaf) → o ≡ got v fs r → Only ok_leaf o → Passing ok_leaf fs
    go (fault k) e x = clash cc
    go (got m gs q) e x = let z : gs ≡ fs = cc in rw z at x

    at : (q : Payload) → q ≡ leaf p → PlainBy ok_leaf refl refl q → Passing ok_leaf fs
    at (leaf q) e x = let z : q ≡ p = cc in go (q s) (rw z h) (x s)
    at fields e x = clash cc
    at shared_fields e x = clash cc
    at items e x = clash cc
    at shared_items e x = clash cc

    by : (f : Flaw) → ok_leaf f ≡ true → has f fs ≡ false
    by Twin e = untrue e
    by Blank e = untrue e
    by Long e = a
    by Low e = b
    by Wide e = untrue e
    by NotUtf8 e = c
    by NotUniform e = untrue e
