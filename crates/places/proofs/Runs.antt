-- Things read one after another to the end of a part, as many as are counted or as fill it.
use Prim.Native.Nat.{ℕ, zero, suc}
use mathlib.Core.Path.{◌≡◌, refl, ap, subst}
use mathlib.Core.List.{List, [], ◌∷◌, map}
use lib.ListN.{length}
use Rattle.format.specs.declared.Flaw.{Flaw}
use Rattle.format.specs.Parse.{Out, got, many, fill}
use Rattle.format.proofs.Back.{never}
use Rattle.format.proofs.Local.{bind_got}

abbrev pub Run : {A : Type 0} → (List ℕ → Out A) → List ℕ → List A → Type 0
Run p r [] = r ≡ []
Run p r (x ∷ xs) = (gs : List Flaw) × (q : List ℕ) × (p r ≡ got x gs q) × Run p q xs

pub run_many : {A : Type 0} (p : List ℕ → Out A) (n : ℕ) (r : List ℕ) (xs : List A) (fs : List Flaw) → many p n r ≡ got xs fs [] → Run p r xs
run_many p zero r xs fs h = let z : [] ≡ xs = cc in subst (Run p r) z (let y : r ≡ [] = cc in y)
run_many p (suc n) r xs fs h = bind_got (p r) _ h λ x es q gs e k _. bind_got (many p n q) _ k λ ys es' u gs' e' k' _.
    let z : x ∷ ys ≡ xs = cc in
    let y : u ≡ [] = cc in
    subst (Run p r) z (es, q, e, run_many p n q ys es' (rw y at e'))

pub many_counts : {A B : Type 0} (f : A → B) (p : List ℕ → Out A) (n : ℕ) (r : List ℕ) {xs : List A} {fs : List Flaw} {q : List ℕ}
    → many p n r ≡ got xs fs q → length (map f xs) ≡ n
many_counts f p zero r {xs} h = let z : xs ≡ [] = cc in rw z
many_counts f p (suc n) r {xs} h = bind_got (p r) _ h λ x es q gs e k _. bind_got (many p n q) _ k λ ys es' u gs' e' k' _.
    let z : xs ≡ x ∷ ys = cc in
    rw z (ap suc (many_counts f p n q e'))

pub run_fill : {A : Type 0} (p : List ℕ → Out A) (n : ℕ) (r : List ℕ) (xs : List A) (fs : List Flaw) (q : List ℕ) → fill p n r ≡ got xs fs q → Run p r xs
run_fill p zero [] xs fs q h = let z : [] ≡ xs = cc in subst (Run p []) z refl
run_fill p zero (b ∷ s) xs fs q h = never h
run_fill p (suc n) [] xs fs q h = let z : [] ≡ xs = cc in subst (Run p []) z refl
run_fill p (suc n) (b ∷ s) xs fs q h = bind_got (p (b ∷ s)) _ h λ x es q gs e k _. bind_got (fill p n q) _ k λ ys es' u gs' e' k' _.
    let z : x ∷ ys ≡ xs = cc in
    subst (Run p (b ∷ s)) z (es, q, e, run_fill p n q ys es' u e')
