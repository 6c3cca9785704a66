-- Reading is local: what was read stands at the front, and reads the same whatever stands behind it. Flaws are free here.
use Prim.Native.Nat.{ℕ, ◌+◌, ◌-◌, ◌≤◌, ◌<◌}
use native.Mathlib.Omega.{arith}
use mathlib.Core.Path.{◌≡◌, refl, sym, ap}
use mathlib.Core.Bool.{Bool, true, false, not, cond}
use mathlib.Core.List.{List, [], ◌∷◌, ◌++◌, append_assoc}
use lib.ListN.{length, take, drop, length-append, take-append-drop}
use lib.Seq.{take_at, drop_at, length-take-le}
use lib.Dec.{ltb}
use borrow.Author.Tests.{ltb-false, le-ltb}
use Rattle.number.specs.VarUInt.{var_uint, whole as whole_number}
use Rattle.number.proofs.NumberThenLaws.{number_all}
use Rattle.number.proofs.VarUIntLaws.{var_range, var_local}
use Rattle.format.specs.declared.Stop.TheVariants.{Early}
use Rattle.format.specs.declared.Flaw.{Flaw}
use Rattle.format.specs.declared.Flaw.TheVariants.{Long}
use Rattle.format.specs.Parse.{Out, fault, got, with_flaws, bind, raise, make, whole, number, read_var_uint, fixed, sized}
use Rattle.format.proofs.Back.{never}

-- ---- what was read

pub with_got : {A X : Type 0} (fs : List Flaw) (o : Out A) {a : A} {es : List Flaw} {r : List ℕ} → with_flaws fs o ≡ got a es r
    → ((gs : List Flaw) → o ≡ got a gs r → es ≡ fs ++ gs → X) → X
with_got [] o {a} {es} h c = c es h refl
with_got (f ∷ fs) (fault k) h c = never h
with_got (f ∷ fs) (got b gs q) h c = c gs (cc) (cc)

pub with_put : {A : Type 0} (fs gs : List Flaw) (a : A) (r : List ℕ) → with_flaws fs (got a gs r) ≡ got a (fs ++ gs) r
with_put [] gs a r = refl
with_put (f ∷ fs) gs a r = refl

pub bind_got : {A B X : Type 0} (o : Out A) (k : A → List ℕ → Out B) {b : B} {fs : List Flaw} {r : List ℕ} → bind o k ≡ got b fs r
    → ((a : A) (es : List Flaw) (q : List ℕ) (gs : List Flaw) → o ≡ got a es q → k a q ≡ got b gs r → fs ≡ es ++ gs → X) → X
bind_got (fault n) k h c = never h
bind_got (got a es q) k h c = with_got es (k a q) h λ gs e e'. c a es q gs refl e e'

pub raise_got : {A X : Type 0} (b : Bool) (f : Flaw) (o : Out A) {c : A} {fs : List Flaw} {r : List ℕ} → raise b f o ≡ got c fs r
    → ((gs : List Flaw) → o ≡ got c gs r → X) → X
raise_got true f o h c = with_got (f ∷ []) o h λ gs e _. c gs e
raise_got false f o {c} {fs} h k = k fs h

pub whole_got : {A X : Type 0} (o : Out A) (q : List ℕ) {a : A} {fs : List Flaw} {r : List ℕ} → whole o q ≡ got a fs r → (o ≡ got a fs [] → q ≡ r → X) → X
whole_got (fault k) q h c = never h
whole_got (got b e []) q h c = c (cc) (cc)
whole_got (got b e (x ∷ xs)) q h c = never h

-- ---- local readers

abbrev pub Local : {A : Type 0} → (List ℕ → Out A) → Type 0
Local {A} p = (s : List ℕ) (a : A) (fs : List Flaw) (r : List ℕ) → p s ≡ got a fs r → (w : List ℕ) × (s ≡ w ++ r) × ((q : List ℕ) → p (w ++ q) ≡ got a fs q)

pub local_bind : {A B : Type 0} (p : List ℕ → Out A) (k : A → List ℕ → Out B) → Local p → ((a : A) → Local (k a)) → Local (λ s. bind (p s) k)
local_bind p k f g s b fs r h = bind_got (p s) k h λ a es q gs e e' ef.
    let x = f s a es q e in
    let y = g a q b gs r e' in
    (x.0 ++ y.0, rw append_assoc (cc), λ z. rw (append_assoc x.0 y.0 z, x.2 (y.0 ++ z), y.2 z, with_put es gs b z, ef))

pub local_got : {A : Type 0} (a : A) → Local (λ s. got a [] s)
local_got a s b fs r h = ([], cc, λ q. cc)

pub local_raise : {A : Type 0} (x : Bool) (f : Flaw) (a : A) → Local (λ s. raise x f (got a [] s))
local_raise true f a s b fs r h = ([], cc, λ q. cc)
local_raise false f a s b fs r h = ([], cc, λ q. cc)

pub local_make : {A B : Type 0} (f : A → B) (p : List ℕ → Out A) → Local p → Local (λ s. make f (p s))
local_make f p g = local_bind p (λ a r. got (f a) [] r) g (λ a. local_got (f a))

pub local_number : Local read_var_uint
unfolding read_var_uint
local_number s a fs r h = number_all (λ o. o ≡ got a fs r → Alone) _ _ s never go h
  where
    Alone : Type 0
    Alone = (w : List ℕ) × (s ≡ w ++ r) × ((q : List ℕ) → number (var_uint (w ++ q)) (w ++ q) ≡ got a fs q)

    go : (v n : ℕ) (x : Bool) → var_uint s ≡ whole_number v n x → raise (not x) Long (got v [] (drop n s)) ≡ got a fs r → Alone
    go v n x e h =
        let l = (var_range s v n x e).2 in
        let m : length (take n s) ≡ n = length-take-le n s l in
        let y : drop n s ≡ r = at (not x) h in
        (take n s, rw (← y) (sym (take-append-drop n s)), λ q. rw (var_local s v n x e q, drop_at (take n s) q n m) (again (not x) h q))
      where
        at : (b : Bool) → raise b Long (got v [] (drop n s)) ≡ got a fs r → drop n s ≡ r
        at true h = cc
        at false h = cc

        again : (b : Bool) → raise b Long (got v [] (drop n s)) ≡ got a fs r → (q : List ℕ) → raise b Long (got v [] q) ≡ got a fs q
        again true h q = cc
        again false h q = cc

pub local_fixed : (n : ℕ) → Local (fixed n)
unfolding fixed
local_fixed n s a fs r h = go (ltb (length s) n) refl h
  where
    go : (x : Bool) → ltb (length s) n ≡ x → cond x (fault Early) (got (take n s) [] (drop n s)) ≡ got a fs r
        → (w : List ℕ) × (s ≡ w ++ r) × ((q : List ℕ) → cond (ltb (length (w ++ q)) n) (fault Early) (got (take n (w ++ q)) [] (drop n (w ++ q))) ≡ got a fs q)
    go true e h = never h
    go false e h =
        let m : length (take n s) ≡ n = length-take-le n s (ltb-false (length s) n e) in (
          take n s,
          cc (take-append-drop n s),
          λ q. rw (le-ltb (length (take n s ++ q)) n (rw (length-append (take n s) q) (omega arith)), take_at (take n s) q n m, drop_at (take n s) q n m) (cc),
        )

pub local_sized : {A : Type 0} (p : List ℕ → Out A) → Local (sized p)
local_sized {A} p = local_bind read_var_uint (λ n r. cond (ltb (length r) n) (fault Early) (whole (p (take n r)) (drop n r))) local_number λ n s a fs r h.
    go n s a fs r (ltb (length s) n) refl h
  where
    go : (n : ℕ) (s : List ℕ) (a : A) (fs : List Flaw) (r : List ℕ) (b : Bool) → ltb (length s) n ≡ b
        → cond b (fault Early) (whole (p (take n s)) (drop n s)) ≡ got a fs r
        → (w : List ℕ) × (s ≡ w ++ r)
        × ((q : List ℕ) → cond (ltb (length (w ++ q)) n) (fault Early) (whole (p (take n (w ++ q))) (drop n (w ++ q))) ≡ got a fs q)
    go n s a fs r true e h = never h
    go n s a fs r false e h = whole_got (p (take n s)) (drop n s) h λ i j.
        let m : length (take n s) ≡ n = length-take-le n s (ltb-false (length s) n e) in (
          take n s,
          cc (take-append-drop n s),
          λ q. rw (le-ltb (length (take n s ++ q)) n (rw (length-append (take n s) q) (omega arith)), take_at (take n s) q n m, drop_at (take n s) q n m, i),
        )

-- ---- what is taken

pub local_le : {A : Type 0} (p : List ℕ → Out A) → Local p → (s : List ℕ) {a : A} {fs : List Flaw} {r : List ℕ} → p s ≡ got a fs r → length r ≤ length s
local_le p f s {a} {fs} {r} h = let x = f s a fs r h in omega (arith, simp length-append at (ap length x.1))

pub number_takes : (s : List ℕ) {v : ℕ} {fs : List Flaw} {r : List ℕ} → read_var_uint s ≡ got v fs r → length r < length s
unfolding read_var_uint
number_takes s {v = a} {fs} {r} h = number_all (λ o. o ≡ got a fs r → length r < length s) _ _ s never go h
  where
    go : (v n : ℕ) (x : Bool) → var_uint s ≡ whole_number v n x → raise (not x) Long (got v [] (drop n s)) ≡ got a fs r → length r < length s
    go v n x e h = raise_got (not x) Long (got v [] (drop n s)) h λ gs k.
        let i = var_range s v n x e in
        let y : drop n s ≡ r = cc in
        let z : s ≡ take n s ++ r = cc (take-append-drop n s) in
        omega (arith, i.0, length-take-le n s i.2, simp length-append at (ap length z))

-- a size, and the bytes that it counts
pub sized_got : {A X : Type 0} (p : List ℕ → Out A) (s : List ℕ) {a : A} {fs : List Flaw} {r : List ℕ} → sized p s ≡ got a fs r
    → ((pre b : List ℕ) (gs : List Flaw) → p b ≡ got a gs [] → s ≡ pre ++ (b ++ r) → 1 ≤ length pre → X) → X
sized_got {A} {X} p s {a} {fs} {r} h c = bind_got (read_var_uint s) _ h λ n es q gs e k _.
    let w = local_number s n es q e in
    go n q gs w.0 w.1 (number_takes s e) (ltb (length q) n) k
  where
    go : (n : ℕ) (q : List ℕ) (gs : List Flaw) (w : List ℕ) → s ≡ w ++ q → length q < length s → (b : Bool)
        → cond b (fault Early) (whole (p (take n q)) (drop n q)) ≡ got a gs r → X
    go n q gs w e l true h = never h
    go n q gs w e l false h = whole_got (p (take n q)) (drop n q) h λ i j.
        c w (take n q) gs i (rw (← j, take-append-drop n q) e) (omega (arith, simp length-append at (ap length e)))
