-- Of one flaw: what a reader tells, whether the flaw was met in what it read or before, and how that is kept by the ways of putting readers together.
use Prim.Native.Nat.{ℕ, zero, suc}
use mathlib.Core.Path.{◌≡◌, refl, sym, ap, subst, ◌∙◌}
use mathlib.Core.Bool.{Bool, true, false, ◌&&◌, ◌||◌, cond, and-false, or-false, or_assoc}
use mathlib.Core.List.{List, [], ◌∷◌}
use lib.ListN.{length, take, drop}
use lib.Dec.{eqb, ltb}
use Rattle.format.specs.declared.Stop.{Stop}
use Rattle.format.specs.declared.Stop.TheVariants.{Early}
use Rattle.format.specs.Kinds.{any}
use Rattle.format.specs.declared.Flaw.{Flaw}
use Rattle.format.specs.Parse.{Out, fault, got, with_flaws, bind, raise, make, whole, fixed, many, fill}
use Rattle.format.specs.Mask.{flaw_value, has}
use Rattle.spelling.proofs.AnyLaws.{any_append}

-- one flaw is another
abbrev pub is : Flaw → Flaw → Bool
is f g = eqb (flaw_value f) (flaw_value g)

-- what was read, and whether f was met in it or before it (c), are in P
abbrev pub Says : {A : Type 0} → Flaw → Bool → (A → Bool → Type 0) → Out A → Type 0
Says f c P (fault k) = Unit {0}
Says f c P (got a fs r) = P a (c || has f fs)

pub record Tells {A : Type 0} (f : Flaw) (c : Bool) (P : A → Bool → Type 0) (o : Out A) : Type 0 where
  pub says : Says f c P o

-- what was met is what was met before, and what this test finds
abbrev pub Adds : {A : Type 0} → Bool → (A → Bool) → A → Bool → Type 0
Adds c t a b = b ≡ (c || t a)

-- nothing was met
abbrev pub Keeps : {A : Type 0} → Bool → A → Bool → Type 0
Keeps c a b = b ≡ c

pub tells_fault : {A : Type 0} (f : Flaw) (c : Bool) (P : A → Bool → Type 0) (k : Stop) → Tells f c P (fault k)
tells_fault f c P k = record { says = tt }

pub tells_got : {A : Type 0} (f : Flaw) (c : Bool) (P : A → Bool → Type 0) (a : A) (r : List ℕ) → P a c → Tells f c P (got a [] r)
tells_got f c P a r h = record { says = subst (P a) (sym (or-false c)) h }

tells_with : {A : Type 0} (f : Flaw) (c : Bool) (P : A → Bool → Type 0) (fs : List Flaw) (o : Out A) → Tells f (c || has f fs) P o
    → Tells f c P (with_flaws fs o)
tells_with f c P [] o h = subst (λ b. Tells f b P o) (or-false c) h
tells_with f c P (g ∷ fs) (fault k) h = record { says = tt }
tells_with f c P (g ∷ fs) (got a gs r) h =
    record { says = subst (P a) (or_assoc c (has f (g ∷ fs)) (has f gs) ∙ ap (λ b. c || b) (sym (any_append (λ g. is f g) (g ∷ fs) gs))) h.says }

pub tells_bind : {A B : Type 0} (f : Flaw) (c : Bool) (P : A → Bool → Type 0) (Q : B → Bool → Type 0) (o : Out A) (k : A → List ℕ → Out B)
    → Tells f c P o → ((a : A) (r : List ℕ) (b : Bool) → P a b → Tells f b Q (k a r)) → Tells f c Q (bind o k)
tells_bind f c P Q (fault n) k h g = record { says = tt }
tells_bind f c P Q (got a fs r) k h g = tells_with f c Q fs (k a r) (g a r (c || has f fs) h.says)

pub tells_raise : {A : Type 0} (f : Flaw) (c : Bool) (P : A → Bool → Type 0) (x : Bool) (g : Flaw) (o : Out A) → Tells f (c || (is f g && x)) P o
    → Tells f c P (raise x g o)
tells_raise f c P false g o h = subst (λ b. Tells f b P o) (ap (λ b. c || b) (and-false (is f g)) ∙ or-false c) h
tells_raise f c P true g o h = tells_with f c P (g ∷ []) o (subst (λ b. Tells f (c || b) P o) (go (is f g)) h)
  where
    go : (b : Bool) → (b && true) ≡ (b || false)
    go true = refl
    go false = refl

pub tells_make : {A B : Type 0} (f : Flaw) (c : Bool) (P : B → Bool → Type 0) (g : A → B) (o : Out A) → Tells f c (λ a b. P (g a) b) o → Tells f c P (make g o)
tells_make f c P g o h = tells_bind f c (λ a b. P (g a) b) P o (λ a r. got (g a) [] r) h λ a r b i. tells_got f b P (g a) r i

pub tells_whole : {A : Type 0} (f : Flaw) (c : Bool) (P : A → Bool → Type 0) (o : Out A) (r : List ℕ) → Tells f c P o → Tells f c P (whole o r)
tells_whole f c P (fault k) r h = record { says = tt }
tells_whole f c P (got a fs []) r h = record { says = h.says }
tells_whole f c P (got a fs (x ∷ xs)) r h = record { says = tt }

pub tells_unless : {A : Type 0} (f : Flaw) (c : Bool) (P : A → Bool → Type 0) (x : Bool) (k : Stop) (o : Out A) → Tells f c P o
    → Tells f c P (cond x (fault k) o)
tells_unless f c P true k o h = record { says = tt }
tells_unless f c P false k o h = h

pub tells_as : {A : Type 0} (f : Flaw) (c : Bool) (P Q : A → Bool → Type 0) (o : Out A) → ((a : A) (b : Bool) → P a b → Q a b) → Tells f c P o → Tells f c Q o
tells_as f c P Q (fault k) g h = record { says = tt }
tells_as f c P Q (got a fs r) g h = record { says = g a (c || has f fs) h.says }

pub tells_fixed : (f : Flaw) (c : Bool) (n : ℕ) (s : List ℕ) → Tells f c (Keeps c) (fixed n s)
unfolding fixed
tells_fixed f c n s = tells_unless f c (Keeps c) (ltb (length s) n) Early _ (tells_got f c (Keeps c) (take n s) (drop n s) refl)

-- n of them, or as many as fill the part
module _ {A : Type 0} (f : Flaw) (t : A → Bool) (p : List ℕ → Out A) (h : (c : Bool) (s : List ℕ) → Tells f c (Adds c t) (p s)) where
  tells_more : (c : Bool) (o : Out A) (k : List ℕ → Out (List A)) → Tells f c (Adds c t) o → ((c : Bool) (s : List ℕ) → Tells f c (Adds c (any t)) (k s))
      → Tells f c (Adds c (any t)) (bind o λ x r. bind (k r) λ xs q. got (x ∷ xs) [] q)
  tells_more c o k i j = tells_bind f c (Adds c t) (Adds c (any t)) o _ i λ x r b e.
      tells_bind f b (Adds b (any t)) (Adds c (any t)) (k r) _ (j b r) λ xs q d e'.
      tells_got f d (Adds c (any t)) (x ∷ xs) q (e' ∙ (ap (λ z. z || any t xs) e ∙ or_assoc c (t x) (any t xs)))

  pub tells_many : (n : ℕ) (c : Bool) (s : List ℕ) → Tells f c (Adds c (any t)) (many p n s)
  tells_many zero c s = tells_got f c (Adds c (any t)) [] s (sym (or-false c))
  tells_many (suc n) c s = tells_more c (p s) (many p n) (h c s) (tells_many n)

  pub tells_fill : (n : ℕ) (c : Bool) (s : List ℕ) → Tells f c (Adds c (any t)) (fill p n s)
  tells_fill zero c [] = tells_got f c (Adds c (any t)) [] [] (sym (or-false c))
  tells_fill zero c (b ∷ s) = record { says = tt }
  tells_fill (suc n) c [] = tells_got f c (Adds c (any t)) [] [] (sym (or-false c))
  tells_fill (suc n) c (b ∷ s) = tells_more c (p (b ∷ s)) (fill p n) (h c (b ∷ s)) (tells_fill n)
