-- The byte that the fields of a uniform object, or the items of a uniform array, share: every way it can stand, and what was read where it is read.
use Rattle.std.specs.Prelude.{None, Some, Option}
use Prim.Native.Nat.{ℕ, zero, suc}
use mathlib.Core.Path.{◌≡◌, refl, ap}
use mathlib.Core.Bool.{Bool, true, false, cond}
use mathlib.Core.List.{List, [], ◌∷◌}
use Rattle.format.specs.declared.Kind.{Kind}
use Rattle.format.specs.declared.Mark.TheVariants.{SharedByFields, SharedByItems}
use Rattle.format.specs.declared.Form.TheVariants.{SharedField, SharedItem}
use Rattle.format.specs.declared.Stop.TheVariants.{Early, BadUniform}
use Rattle.format.specs.declared.Stop.TheVariants as S
use Rattle.format.specs.declared.Flaw.{Flaw}
use Rattle.format.specs.Kinds.{type_byte, kind_at, is_bare}
use Rattle.format.specs.Parse.{Out, fault, got}
use Rattle.format.specs.Payload.{Head, fields_in, items_in, shared_fields_of, read_shared_fields, shared_items_of, read_shared_items}
use Rattle.format.proofs.Back.{never}
use Rattle.format.proofs.KindLaws.{kind_inv}

-- ---- what holds of every way the byte can stand holds of what is read

pub record ByFields (P : List ℕ → Out Head → Type 0) : Type 0 where
  pub none : P [] (fault Early)
  pub unknown : (b : ℕ) (s : List ℕ) → kind_at SharedByFields b ≡ None → P (b ∷ s) (fault S.Unknown)
  pub alone : (b : ℕ) (k : Kind) → kind_at SharedByFields b ≡ Some k → P (b ∷ []) (fault BadUniform)
  pub shared : (b : ℕ) (k : Kind) (c : ℕ) (s : List ℕ) → kind_at SharedByFields b ≡ Some k → P (b ∷ (c ∷ s)) (got (fields_in (SharedField k) (c ∷ s)) [] [])

pub by_fields : (P : List ℕ → Out Head → Type 0) → ByFields P → (b : List ℕ) → P b (read_shared_fields b)
by_fields P f [] = f.none
by_fields P f (b ∷ s) = at (kind_at SharedByFields b) refl s
  where
    at : (o : Option Kind) → kind_at SharedByFields b ≡ o → (s : List ℕ) → P (b ∷ s) (shared_fields_of o s)
    at None e s = f.unknown b s e
    at (Some k) e [] = f.alone b k e
    at (Some k) e (c ∷ s) = f.shared b k c s e

pub record ByItems (P : ℕ → List ℕ → Out Head → Type 0) : Type 0 where
  pub none : (n : ℕ) → P n [] (fault Early)
  pub unknown : (n b : ℕ) (s : List ℕ) → kind_at SharedByItems b ≡ None → P n (b ∷ s) (fault S.Unknown)
  pub uncounted : (b : ℕ) (k : Kind) (s : List ℕ) → kind_at SharedByItems b ≡ Some k → P 0 (b ∷ s) (fault BadUniform)
  pub bare : (n b : ℕ) (k : Kind) (s : List ℕ) → kind_at SharedByItems b ≡ Some k → is_bare k ≡ true → P (suc n) (b ∷ s) (fault BadUniform)
  pub shared : (n b : ℕ) (k : Kind) (s : List ℕ) → kind_at SharedByItems b ≡ Some k → is_bare k ≡ false
      → P (suc n) (b ∷ s) (got (items_in (SharedItem k) (suc n) s) [] [])

pub by_items : (P : ℕ → List ℕ → Out Head → Type 0) → ByItems P → (n : ℕ) (b : List ℕ) → P n b (read_shared_items n b)
by_items P f n [] = f.none n
by_items P f n (b ∷ s) = at (kind_at SharedByItems b) refl n
  where
    told : (n : ℕ) (k : Kind) → kind_at SharedByItems b ≡ Some k → (u : Bool) → is_bare k ≡ u
        → P (suc n) (b ∷ s) (cond u (fault BadUniform) (got (items_in (SharedItem k) (suc n) s) [] []))
    told n k e true i = f.bare n b k s e i
    told n k e false i = f.shared n b k s e i

    at : (o : Option Kind) → kind_at SharedByItems b ≡ o → (n : ℕ) → P n (b ∷ s) (shared_items_of n o s)
    at None e n = f.unknown n b s e
    at (Some k) e zero = f.uncounted b k s e
    at (Some k) e (suc n) = told n k e (is_bare k) refl

-- ---- where it is read

pub shared_fields_got : {X : Type 0} (b : List ℕ) {h : Head} {gs : List Flaw} {r : List ℕ} → read_shared_fields b ≡ got h gs r
    → ((k : Kind) (c : ℕ) (s : List ℕ) → b ≡ type_byte SharedByFields k ∷ (c ∷ s) → h ≡ fields_in (SharedField k) (c ∷ s) → X) → X
shared_fields_got {X} b {h} {gs} {r} e go = by_fields Gives (record {
  none = λ e go. never e;
  unknown = λ b s i e go. never e;
  alone = λ b k i e go. never e;
  shared = λ b k c s i e go. go k c s (ap (λ b. b ∷ (c ∷ s)) (kind_inv SharedByFields b k i)) (cc);
}) b e go
  where
    Gives : List ℕ → Out Head → Type 0
    Gives b o = o ≡ got h gs r → ((k : Kind) (c : ℕ) (s : List ℕ) → b ≡ type_byte SharedByFields k ∷ (c ∷ s) → h ≡ fields_in (SharedField k) (c ∷ s) → X) → X

pub shared_items_got : {X : Type 0} (n : ℕ) (b : List ℕ) {h : Head} {gs : List Flaw} {r : List ℕ} → read_shared_items n b ≡ got h gs r
    → ((k : Kind) (m : ℕ) (s : List ℕ) → n ≡ suc m → b ≡ type_byte SharedByItems k ∷ s → is_bare k ≡ false → h ≡ items_in (SharedItem k) (suc m) s → X) → X
shared_items_got {X} n b {h} {gs} {r} e go = by_items Gives (record {
  none = λ n e go. never e;
  unknown = λ n b s i e go. never e;
  uncounted = λ b k s i e go. never e;
  bare = λ n b k s i j e go. never e;
  shared = λ n b k s i j e go. go k n s refl (ap (λ b. b ∷ s) (kind_inv SharedByItems b k i)) j (cc);
}) n b e go
  where
    Gives : ℕ → List ℕ → Out Head → Type 0
    Gives n b o = o ≡ got h gs r
        → ((k : Kind) (m : ℕ) (s : List ℕ) → n ≡ suc m → b ≡ type_byte SharedByItems k ∷ s → is_bare k ≡ false → h ≡ items_in (SharedItem k) (suc m) s → X) → X
