-- Events that a test of their object keeps, and the others: the first twin is the earlier of the two that they have.
use Prim.Native.Nat.{ℕ, ◌≤◌, ◌<◌}
use native.Mathlib.Omega.{arith}
use mathlib.Core.Path.{◌≡◌, refl, sym, ap, ◌∙◌}
use mathlib.Core.Bool.{Bool, true, false, not, ◌&&◌, ◌||◌, cond}
use mathlib.Core.Option.{some}
use mathlib.Core.List.{List, [], ◌∷◌, ◌++◌}
use lib.ListN.{length}
use lib.Dec.{eqb}
use borrow.Author.Tests.{eqb-true, ne_eqb}
use Rattle.number.specs.BigEndian.{All}
use Rattle.number.proofs.Clash.{clash}
use Rattle.text.specs.Equal.{equal}
use Rattle.format.specs.Kinds.{any}
use Rattle.format.proofs.Lists.{all_of}
use Rattle.twins.specs.Events.{Event, is_of, first_twin, Falls}
use Rattle.twins.specs.Least.{earlier}
use Rattle.twins.proofs.EventLaws.{falls_less}
use Rattle.twins.proofs.EarlierLaws.{Behind, behind_less, earlier_left, earlier_right}

abbrev pub keep : (ℕ → Bool) → List Event → List Event
keep c [] = []
keep c (e ∷ es) = cond (c e.object) (e ∷ keep c es) (keep c es)

abbrev pub drops : (ℕ → Bool) → ℕ → Bool
drops c k = not (c k)

pub keep_append : (c : ℕ → Bool) (a b : List Event) → keep c (a ++ b) ≡ keep c a ++ keep c b
keep_append c [] b = refl
keep_append c (e ∷ a) b = at (keep_append c a b) (c e.object)
  where
    at : keep c (a ++ b) ≡ keep c a ++ keep c b → (x : Bool) → cond x (e ∷ keep c (a ++ b)) (keep c (a ++ b)) ≡ cond x (e ∷ keep c a) (keep c a) ++ keep c b
    at i true = rw i
    at i false = i

pub keep_all : (c : ℕ → Bool) (es : List Event) → All (λ e. c e.object ≡ true) es → keep c es ≡ es
keep_all c [] h = refl
keep_all c (e ∷ es) h = rw (h.0, keep_all c es h.1)

pub keep_none : (c : ℕ → Bool) (es : List Event) → All (λ e. c e.object ≡ false) es → keep c es ≡ []
keep_none c [] h = refl
keep_none c (e ∷ es) h = rw (h.0, keep_none c es h.1)

pub falls_keep : (c : ℕ → Bool) (m : ℕ) (es : List Event) → Falls m es → Falls m (keep c es)
falls_keep c m [] h = tt
falls_keep c m (e ∷ es) h = at (c e.object) (falls_keep c (length e.from) es h.1)
  where
    at : (x : Bool) → Falls (length e.from) (keep c es) → Falls m (cond x (e ∷ keep c es) (keep c es))
    at true i = (h.0, i)
    at false i = let z = h.0 in falls_less (length e.from) m (keep c es) (omega arith) i

-- the names of a kept object are all there
any_keep : (c : ℕ → Bool) (k : ℕ) (n : List ℕ) → c k ≡ true → (seen : List Event) → any (is_of k n) (keep c seen) ≡ any (is_of k n) seen
any_keep c k n h [] = refl
any_keep c k n h (e ∷ seen) = at (any_keep c k n h seen) (c e.object) (eqb k e.object) refl refl
  where
    at : any (is_of k n) (keep c seen) ≡ any (is_of k n) seen → (x y : Bool) → c e.object ≡ x → eqb k e.object ≡ y
        → any (is_of k n) (cond x (e ∷ keep c seen) (keep c seen)) ≡ ((y && equal n e.name) || any (is_of k n) seen)
    at i true y p q = rw (i, q)
    at i false true p q = let z : true ≡ false = sym h ∙ ap c (eqb-true k e.object q) ∙ p in clash cc
    at i false false p q = i

-- a twin is among the events
pub twin_behind : (m : ℕ) (seen es : List Event) → Falls m es → Behind m (first_twin seen es)
unfolding first_twin
twin_behind m seen [] h = tt
twin_behind m seen (e ∷ es) h = at (any (is_of e.object e.name) seen) (twin_behind (length e.from) (e ∷ seen) es h.1)
  where
    at : (x : Bool) → Behind (length e.from) (first_twin (e ∷ seen) es) → Behind m (cond x (some e.from) (first_twin (e ∷ seen) es))
    at true i = h.0
    at false i = behind_less (length e.from) m (first_twin (e ∷ seen) es) (let z = h.0 in omega arith) i

pub twin_split : (c : ℕ → Bool) (m : ℕ) (seen es : List Event) → Falls m es
    → first_twin seen es ≡ earlier (first_twin (keep c seen) (keep c es)) (first_twin (keep (drops c) seen) (keep (drops c) es))
unfolding first_twin
twin_split c m seen [] h = refl
twin_split c m seen (e ∷ es) h = by (c k) refl (twin_split c (length f) (e ∷ seen) es h.1)
  where
    k : ℕ
    k = e.object

    f : List ℕ
    f = e.from

    kept : List Event → List Event
    kept a = keep c a

    left : List Event → List Event
    left a = keep (drops c) a

    Rest : Bool → Type 0
    Rest x = first_twin (e ∷ seen) es
        ≡ earlier (first_twin (cond x (e ∷ kept seen) (kept seen)) (kept es)) (first_twin (cond (not x) (e ∷ left seen) (left seen)) (left es))

    in_kept : (y : Bool) → Rest true → cond y (some f) (first_twin (e ∷ seen) es)
        ≡ earlier (cond y (some f) (first_twin (e ∷ kept seen) (kept es))) (first_twin (left seen) (left es))
    in_kept true i =
        let b = twin_behind (length f) (left seen) (left es) (falls_keep (drops c) (length f) es h.1) in
        sym (earlier_left f (first_twin (left seen) (left es)) b)
    in_kept false i = i

    in_left : (y : Bool) → Rest false → cond y (some f) (first_twin (e ∷ seen) es)
        ≡ earlier (first_twin (kept seen) (kept es)) (cond y (some f) (first_twin (e ∷ left seen) (left es)))
    in_left true i =
        let b = twin_behind (length f) (kept seen) (kept es) (falls_keep c (length f) es h.1) in
        sym (earlier_right f (first_twin (kept seen) (kept es)) b)
    in_left false i = i

    by : (x : Bool) → c k ≡ x → Rest x → cond (any (is_of k e.name) seen) (some f) (first_twin (e ∷ seen) es)
        ≡ earlier (first_twin (kept seen) (cond x (e ∷ kept es) (kept es))) (first_twin (left seen) (cond (not x) (e ∷ left es) (left es)))
    by true p i = rw (any_keep c k e.name p seen) (in_kept (any (is_of k e.name) seen) i)
    by false p i = rw (any_keep (drops c) k e.name (ap not p) seen) (in_left (any (is_of k e.name) seen) i)

-- ---- objects of which nothing was seen

apart : (k : ℕ) (n : List ℕ) (a seen : List Event) → All (λ e. k < e.object) seen → any (is_of k n) (a ++ seen) ≡ any (is_of k n) a
apart k n [] [] h = refl
apart k n [] (e ∷ seen) h = rw (ne_eqb k e.object (λ q. let z = h.0 in omega arith)) (apart k n [] seen h.1)
apart k n (e ∷ a) seen h = rw (apart k n a seen h)

twin_fresh_by : (m : ℕ) (a seen es : List Event) → All (λ e. m ≤ e.object) seen → All (λ e. e.object < m) es → first_twin (a ++ seen) es ≡ first_twin a es
unfolding first_twin
twin_fresh_by m a seen [] h g = refl
twin_fresh_by m a seen (e ∷ es) h g =
    let z = all_of (λ x. m ≤ x.object) (λ x. e.object < x.object) (λ x z. let y = g.0 in omega arith) seen h in
    rw (apart e.object e.name a seen z, twin_fresh_by m (e ∷ a) seen es h g.1)

pub twin_fresh : (m : ℕ) (seen es : List Event) → All (λ e. m ≤ e.object) seen → All (λ e. e.object < m) es → first_twin seen es ≡ first_twin [] es
twin_fresh m seen es h g = twin_fresh_by m [] seen es h g
