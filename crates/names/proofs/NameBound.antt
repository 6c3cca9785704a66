-- The names of the fields in a part: no bound on how many matters once it is the length.
use Prim.Native.Nat.{ℕ, zero, suc, ◌≤◌, ◌<◌}
use native.Mathlib.Omega.{arith}
use mathlib.Core.Path.{◌≡◌, refl, sym, ap, ◌∙◌}
use mathlib.Core.Bool.{Bool, true, false, cond}
use mathlib.Core.List.{List, [], ◌∷◌}
use lib.ListN.{length}
use lib.Dec.{ltb}
use borrow.Author.Tests.{ltb-true, lt-ltb, le-ltb}
use Rattle.format.specs.declared.Kind.{Kind}
use Rattle.format.specs.declared.Form.{Form}
use Rattle.format.specs.declared.Flaw.{Flaw}
use Rattle.format.specs.Parse.{Out, fault, got}
use Rattle.format.specs.Payload.{Head}
use Rattle.head.specs.Code.{meeting}
use Rattle.names.specs.FieldNames.{names_after, names_at, field_names}

-- ---- the bound

after_same : (n : ℕ) (o : Out ((List ℕ × Kind) × (List ℕ × Head))) (f g : List ℕ → List (List ℕ)) → ((r : List ℕ) → length r < n → f r ≡ g r)
    → names_after n o f ≡ names_after n o g
after_same n (fault k) f g e = refl
after_same n (got x fs r) f g e = go _ (ltb (length r) n) refl
  where
    go : (m : List ℕ) (t : Bool) → ltb (length r) n ≡ t → cond t (m ∷ f r) [] ≡ cond t (m ∷ g r) []
    go m true q = ap (λ l. m ∷ l) (e r (ltb-true (length r) n q))
    go m false q = refl

after_none : (o : Out ((List ℕ × Kind) × (List ℕ × Head))) (f : List ℕ → List (List ℕ)) → names_after 0 o f ≡ []
after_none (fault k) f = refl
after_none (got x fs r) f = rw (le-ltb (length r) 0 (omega arith))

names_bound : (f : Form) (n m : ℕ) (s : List ℕ) → length s ≤ n → length s ≤ m → names_at f n s ≡ names_at f m s
unfolding names_at
names_bound f zero zero s a b = refl
names_bound f zero (suc m) [] a b = refl
names_bound f zero (suc m) (c ∷ s) a b = absurd (omega arith)
names_bound f (suc n) zero [] a b = refl
names_bound f (suc n) zero (c ∷ s) a b = absurd (omega arith)
names_bound f (suc n) (suc m) [] a b = refl
names_bound f (suc n) (suc m) (c ∷ s) a b =
    after_same (length (c ∷ s)) (meeting f (c ∷ s)) (λ r. names_at f n r) (λ r. names_at f m r) λ r l. names_bound f n m r (omega arith) (omega arith)

pub names_step : (f : Form) (s : List ℕ) → field_names f s ≡ names_after (length s) (meeting f s) (field_names f)
unfolding names_at
names_step f [] = sym (after_none (meeting f []) (field_names f))
names_step f (c ∷ s) =
    after_same (length (c ∷ s)) (meeting f (c ∷ s)) (λ r. names_at f (length s) r) (field_names f) λ r l. names_bound f (length s) (length r) r
    (omega arith) (omega arith)

-- ---- what was met

pub met_first : (f : Form) (s : List ℕ) {x : (List ℕ × Kind) × (List ℕ × Head)} {fs : List Flaw} {r : List ℕ} → meeting f s ≡ got x fs r → length r < length s
    → field_names f s ≡ x.0.0 ∷ field_names f r
met_first f s {x} {fs} {r} e l = names_step f s ∙ rw (e, lt-ltb (length r) (length s) l)
