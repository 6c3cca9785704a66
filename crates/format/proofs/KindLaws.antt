-- A type byte gives its kind back, and only its own byte does; lists of kinds that are all the same.
use Rattle.std.specs.Prelude.{Some, None, Option}
use Prim.Native.Nat.{ℕ, ◌+◌, ◌-◌, ◌≤◌, ◌<◌}
use native.Mathlib.Omega.{arith}
use mathlib.Core.Path.{◌≡◌, refl, sym}
use mathlib.Core.Bool.{Bool, true, false, ◌&&◌, ◌||◌, cond}
use mathlib.Core.List.{List, [], ◌∷◌, map}
use lib.Dec.{eqb, ltb}
use borrow.Author.Tests.{eqb-true, eq-eqb, ltb-true, ltb-false, lt-ltb, le-ltb}
use Rattle.number.proofs.Clash.{clash}
use Rattle.number.specs.BigEndian.{All}
use Rattle.format.specs.declared.Kind.{Kind}
use Rattle.format.specs.declared.Kind.TheVariants.{Null, Object, UniformObject, Array, UniformArray, Binary, String, IntegerPositive, IntegerNegative}
use Rattle.format.specs.declared.Kind.TheVariants.{Float32, Float64, False, True, ObjectAttachment, BinaryAttachment, Hash, Uuid, DateTime, TimeSpan}
use Rattle.format.specs.declared.Kind.TheVariants.{ObjectId, CustomById, CustomByName}
use Rattle.format.specs.declared.Mark.{Mark}
use Rattle.format.specs.Kinds.{id, kinds, with_id, known, flags, type_byte, kind_at, same, all, is_bare}
use Rattle.format.proofs.Lists.{and_true}

pub known_rt : (k : Kind) → known (id k) ≡ Some k
unfolding known
known_rt = elim [
  | Null ↦ refl
  | Object ↦ refl
  | UniformObject ↦ refl
  | Array ↦ refl
  | UniformArray ↦ refl
  | Binary ↦ refl
  | String ↦ refl
  | IntegerPositive ↦ refl
  | IntegerNegative ↦ refl
  | Float32 ↦ refl
  | Float64 ↦ refl
  | False ↦ refl
  | True ↦ refl
  | ObjectAttachment ↦ refl
  | BinaryAttachment ↦ refl
  | Hash ↦ refl
  | Uuid ↦ refl
  | DateTime ↦ refl
  | TimeSpan ↦ refl
  | ObjectId ↦ refl
  | CustomById ↦ refl
  | CustomByName ↦ refl
]

unknown_never : {X : Type 0} {k : Kind} → None ≡ Some k → X
unknown_never h = clash cc

with_inv : (n : ℕ) (ks : List Kind) (k : Kind) → with_id n ks ≡ Some k → n ≡ id k
with_inv n [] k h = unknown_never h
with_inv n (l ∷ ks) k h = go (eqb n (id l)) refl (with_inv n ks k) h
  where
    go : (x : Bool) → eqb n (id l) ≡ x → (with_id n ks ≡ Some k → n ≡ id k) → cond x (Some l) (with_id n ks) ≡ Some k → n ≡ id k
    go true e ih h = let z : l ≡ k = cc in rw z at (eqb-true n (id l) e)
    go false e ih h = ih h

pub known_inv : (n : ℕ) (k : Kind) → known n ≡ Some k → n ≡ id k
unfolding known
known_inv n k h = with_inv n kinds k h

-- a fact of the table of kinds is one test, computed over the list of them
pub every_kind : (test : Kind → Bool) → all test kinds ≡ true → (k : Kind) → test k ≡ true
unfolding known
every_kind test e k = at kinds (known_rt k) e
  where
    go : (l : Kind) (ks : List Kind) (x : Bool) → (with_id (id k) ks ≡ Some k → all test ks ≡ true → test k ≡ true) → cond x (Some l) (with_id (id k) ks) ≡ Some k
        → (test l && all test ks) ≡ true → test k ≡ true
    go l ks true ih h e = let z : l ≡ k = cc in rw z at (and_true (test l) (all test ks) e).0
    go l ks false ih h e = ih h (and_true (test l) (all test ks) e).1

    at : (ks : List Kind) → with_id (id k) ks ≡ Some k → all test ks ≡ true → test k ≡ true
    at [] h e = unknown_never h
    at (l ∷ ks) h e = go l ks (eqb (id k) (id l)) (at ks) h e

pub kind_rt : (m : Mark) (k : Kind) → kind_at m (type_byte m k) ≡ Some k
kind_rt m k =
    let e : flags m + id k - flags m ≡ id k = omega arith in
    rw (le-ltb (flags m + id k) (flags m) (omega arith), e, known_rt k)

pub kind_inv : (m : Mark) (b : ℕ) (k : Kind) → kind_at m b ≡ Some k → b ≡ type_byte m k
kind_inv m b k h = go (ltb b (flags m)) refl h
  where
    go : (x : Bool) → ltb b (flags m) ≡ x → cond x None (known (b - flags m)) ≡ Some k → b ≡ type_byte m k
    go true e h = unknown_never h
    go false e h = omega (arith, ltb-false b (flags m) e, known_inv (b - flags m) k h)

-- ---- kinds that are the same

pub same_eq : (k l : Kind) → same k l ≡ true → k ≡ l
same_eq k l h = let e : id k ≡ id l = eqb-true (id k) (id l) h in cc (known_rt k, known_rt l)

pub all_same : {A : Type 0} (kind : A → Kind) (k : Kind) (xs : List A) → all (same k) (map kind xs) ≡ true → All (λ x. kind x ≡ k) xs
all_same kind k [] h = tt
all_same kind k (x ∷ xs) h =
    let i = and_true (same k (kind x)) (all (same k) (map kind xs)) h in
    (sym (same_eq k (kind x) i.0), all_same kind k xs i.1)

pub same_all : {A : Type 0} (kind : A → Kind) (k : Kind) (xs : List A) → All (λ x. kind x ≡ k) xs → all (same k) (map kind xs) ≡ true
same_all kind k [] h = refl
same_all kind k (x ∷ xs) h = rw (h.0, eq-eqb (id k) (id k) refl) (same_all kind k xs h.1)

-- ---- by the tests of the code

pub known_is : (b : ℕ) (k : Kind) → b ≡ id k → Some k ≡ known b
known_is b k e = sym (rw e (known_rt k))

pub known_none : (b : ℕ) → ((k : Kind) → b ≡ id k → ⊥) → None ≡ known b
known_none b h = go (known b) refl
  where
    go : (o : Option Kind) → known b ≡ o → None ≡ known b
    go None e = sym e
    go (Some k) e = absurd (h k (known_inv b k e))

pub kind_low : (m : Mark) (b f : ℕ) → f ≡ flags m → b < f → None ≡ kind_at m b
kind_low m b f e l = rw (lt-ltb b (flags m) (rw (← e) l))

pub kind_high : (m : Mark) (b f : ℕ) (o : Option Kind) → f ≡ flags m → f ≤ b → o ≡ known (b - f) → o ≡ kind_at m b
kind_high m b f o e l h = rw (le-ltb b (flags m) (rw (← e) l), ← e) h

or_assoc : (a b c : Bool) → ((a || b) || c) ≡ (a || (b || (c || false)))
or_assoc true b c = refl
or_assoc false true c = refl
or_assoc false false true = refl
or_assoc false false false = refl

pub bare_is : (n : ℕ) (k : Kind) → n ≡ id k → ((eqb n 1 || eqb n 12) || eqb n 13) ≡ is_bare k
unfolding is_bare
bare_is n k e = rw e (or_assoc (eqb (id k) 1) (eqb (id k) 12) (eqb (id k) 13))

-- no ID is 0, and each is below the flags
pub id_range : (k : Kind) → (1 ≤ id k) × (id k < 32)
id_range k = (lt_le 0 (id k) (ltb-true 0 (id k) (every_kind (λ k. ltb 0 (id k)) refl k)), ltb-true (id k) 32 (every_kind (λ k. ltb (id k) 32) refl k))
  where
    lt_le : (a b : ℕ) → a < b → a + 1 ≤ b
    lt_le a b h = omega arith
