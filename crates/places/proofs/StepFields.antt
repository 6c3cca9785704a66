-- A field that a step gives, of any payload and any place, forged or not: what was met, where it stands, and that steps go on.
use Rattle.std.specs.Prelude.{Option, None, Some, Ok, Err}
use Prim.Native.Nat.{ℕ, ◌+◌, ◌-◌, ◌≤◌, ◌<◌}
use native.Mathlib.Omega.{arith}
use mathlib.Core.Path.{◌≡◌, refl, sym, ap, subst, ◌∙◌}
use mathlib.Core.Bool.{Bool, true, false, ◌||◌, cond}
use mathlib.Core.List.{List, [], ◌++◌}
use lib.ListN.{length, length-append}
use lib.Seq.{slice, length-slice}
use lib.Dec.{eqb, ltb}
use borrow.Author.Tests.{ltb-false}
use Rattle.format.specs.declared.Kind.{Kind}
use Rattle.format.specs.declared.Form.{Form}
use Rattle.format.specs.declared.Stop.TheVariants.{Early, TooDeep}
use Rattle.places.specs.declared.Place.{Place}
use Rattle.format.specs.Limits.{depth_limit, length_limit}
use Rattle.format.specs.declared.Flaw.{Flaw}
use Rattle.format.specs.Parse.{Out, fault, got}
use Rattle.format.specs.Tree.{Leaf}
use Rattle.format.specs.Payload.{Head, value, fields_in, items_in, front, head}
use Rattle.places.specs.Places.{check, place_of, met, meet, step_of, from, step_in, step_from, step}
use Rattle.format.proofs.Local.{bind_got, local_le}
use Rattle.format.proofs.HeadParts.{Full, head_body, front_takes, local_head}
use Rattle.places.proofs.FieldBytes.{field_takes}
use Rattle.places.proofs.PassedPlaces.{Passed, check_passed}
use Rattle.number.proofs.Clash.{clash}
use Rattle.places.specs.declared.PlaceError.TheVariants.{Fault, WrongKind}
use Rattle.places.specs.declared.Field.{Field}
use Rattle.places.specs.Made.{step_met}

-- ---- what was met, and that the tests before it passed

step_same : (p q : Place) (n m : ℕ) → step_met p n ≡ step_met q m → (p ≡ q) × (n ≡ m)
step_same p q n m z =
    let f : ◌≡◌ {A = Field} (record { place = p; name = n }) (record { place = q; name = m }) = cc in
    (ap (λ f. f.place) f, ap (λ f. f.name) f)

pub met_inv : {X : Type 0} (d e : ℕ) (f : Form) (t : List ℕ) (p : Place) (n : ℕ) → step_of (met d e f t) ≡ step_met p n
    → ((x : List ℕ × Kind) (es : List Flaw) (r : List ℕ) → front f t ≡ got x es r → (h : Head) (gs : List Flaw) (q : List ℕ) → head x.1 r ≡ got h gs q
    → place_of d e x.1 r q ≡ p → e - length r - length x.0 ≡ n → X)
    → X
met_inv {X} d e f t p n z k = by (met d e f t) refl z
  where
    by : (o : Out (List ℕ × Place)) → met d e f t ≡ o → step_of o ≡ step_met p n → X
    by (fault j) i z = clash (cc)
    by (got y fs u) i z =
        let same = step_same y.1 p (y.1.start - length y.0) n z in
        bind_got (front f t) _ i λ x es r gs j w _. bind_got (head x.1 r) _ w λ h es' q gs' j' w' _.
        let here : (x.0, place_of d e x.1 r q) ≡ y = cc in
        k x es r j h es' q j' (ap (λ y. y.1) here ∙ same.0) (ap (λ (y : List ℕ × Place). y.1.start - length y.0) here ∙ same.1)

pub in_inv : {X : Type 0} (s : List ℕ) (c : Place) (f : Form) (begin at : ℕ) (p : Place) (n : ℕ) → step_in s c f begin at ≡ step_met p n
    → (begin ≤ at → at ≤ c.end → c.depth + 1 ≤ depth_limit → step_of (met (c.depth + 1) c.end f (slice at c.end s)) ≡ step_met p n → X) → X
unfolding meet
in_inv {X} s c f begin at p n z k = go (ltb at begin) refl (ltb c.end at) refl (eqb at c.end) (ltb depth_limit (c.depth + 1)) refl z
  where
    go : (b₁ : Bool) → ltb at begin ≡ b₁ → (b₂ : Bool) → ltb c.end at ≡ b₂ → (b₃ b₄ : Bool) → ltb depth_limit (c.depth + 1) ≡ b₄
        → cond (b₁ || b₂) (Err (Fault Early)) (cond b₃ (Ok None) (step_of (cond b₄ (fault TooDeep) (met (c.depth + 1) c.end f (slice at c.end s)))))
        ≡ step_met p n → X
    go true e₁ b₂ e₂ b₃ b₄ e₄ z = clash (cc)
    go false e₁ true e₂ b₃ b₄ e₄ z = clash (cc)
    go false e₁ false e₂ true b₄ e₄ z = clash (cc)
    go false e₁ false e₂ false true e₄ z = clash (cc)
    go false e₁ false e₂ false false e₄ z = k (ltb-false at begin e₁) (ltb-false c.end at e₂) (ltb-false depth_limit (c.depth + 1) e₄) z

-- a container that passed, and whose contents begin here
pub record Opens (s : List ℕ) (c : Place) (f : Form) (begin : ℕ) : Type 0 where
  pub short : length s ≤ length_limit
  pub first : c.start ≤ begin
  pub last : begin ≤ c.end
  pub inside : c.end ≤ length s
  pub full : Full f

pub opens : (s : List ℕ) (c : Place) (f : Form) (b : List ℕ) {h : Head} {fs : List Flaw} → Passed s c h fs
    → ((w : List ℕ) × (slice c.start c.end s ≡ w ++ (b ++ []))) × Full f → Opens s c f (c.end - length b)
opens s c f b i w =
    let l : length (slice c.start c.end s) ≡ length w.0.0 + (length b + 0) = simp length-append at (ap length w.0.1) in
    record {
      short = i.short;
      first = omega (arith, length-slice c.start c.end s i.inside, i.order);
      last = omega arith;
      inside = i.inside;
      full = w.1;
    }

pub opens_fields : (s : List ℕ) (c : Place) (f : Form) (b : List ℕ) {fs : List Flaw} {r : List ℕ} → check s c ≡ got (fields_in f b) fs r
    → Opens s c f (c.end - length b)
opens_fields s c f b e = let i = check_passed s c e in opens s c f b i (head_body i.kind (slice c.start c.end s) i.header)

pub opens_items : (s : List ℕ) (c : Place) (f : Form) (n : ℕ) (b : List ℕ) {fs : List Flaw} {r : List ℕ} → check s c ≡ got (items_in f n b) fs r
    → Opens s c f (c.end - length b)
opens_items s c f n b e = let i = check_passed s c e in opens s c f b i (head_body i.kind (slice c.start c.end s) i.header)

pub step_inv : {X : Type 0} (s : List ℕ) (c : Place) (l : Option Place) (p : Place) (n : ℕ) → step s c l ≡ step_met p n
    → ((f : Form) (begin : ℕ) → Opens s c f begin → step_in s c f begin (from begin l) ≡ step_met p n → X) → X
unfolding step
step_inv {X} s c l p n z k = at (check s c) refl z
  where
    at : (o : Out Head) → check s c ≡ o → step_from s c l o ≡ step_met p n → X
    at (fault j) e h = clash (cc)
    at (got (value v) fs r) e h = clash (cc)
    at (got (fields_in f b) fs r) e h = k f (c.end - length b) (opens_fields s c f b e) h
    at (got (items_in f m b) fs r) e h = k f (c.end - length b) (opens_items s c f m b e) h

-- ---- where it stands: from `at` on, and up to e

pub record Along (f : Form) (d at e : ℕ) (p : Place) (n : ℕ) : Type 0 where
  pub first : at ≤ n
  pub name : n ≤ p.start
  pub order : p.start ≤ p.end
  pub within : p.end ≤ e
  pub deep : p.depth ≡ d
  pub onward : Full f → at < p.end

pub met_along : (d e : ℕ) (f : Form) (t : List ℕ) (p : Place) (n : ℕ) → length t ≤ e → step_of (met d e f t) ≡ step_met p n → Along f d (e - length t) e p n
met_along d e f t p n l z = met_inv d e f t p n z λ x es r j h gs q j' pp nn.
    let a = (front_takes f t j).0 in
    let la : length t ≡ length a.0 + (length x.0 + length r) = simp length-append at (ap length a.1) in
    let b = local_le (head x.1) (local_head x.1) r j' in
    let s₁ : e - length r ≡ p.start = ap (λ c. c.start) pp in
    let s₂ : e - length q ≡ p.end = ap (λ c. c.end) pp in
    record {
      first = omega arith;
      name = omega arith;
      order = omega arith;
      within = omega arith;
      deep = sym (ap (λ c. c.depth) pp);
      onward = λ full. omega (arith, field_takes f t full j j');
    }

pub in_along : (s : List ℕ) (c : Place) (f : Form) (begin at : ℕ) (p : Place) (n : ℕ) → c.end ≤ length s → step_in s c f begin at ≡ step_met p n
    → Along f (c.depth + 1) at c.end p n
in_along s c f begin at p n i z = in_inv s c f begin at p n z λ _ last _ m.
    let l = length-slice at c.end s i in
    let k : c.end - length (slice at c.end s) ≡ at = omega arith in
    subst (λ a. Along f (c.depth + 1) a c.end p n) k (met_along (c.depth + 1) c.end f (slice at c.end s) p n (omega arith) m)

-- ---- steps go on

pub record Onward (c : Place) (at : ℕ) (q : Place) : Type 0 where
  pub further : at < q.end
  pub within : q.end ≤ c.end

-- where a step begins to read, at least
abbrev pub behind : Option Place → ℕ
behind None = 0
behind (Some p) = p.end

from_behind : (b : ℕ) (l : Option Place) → behind l ≤ from b l
from_behind b None = omega arith
from_behind b (Some p) = omega arith

-- of any payload and any place, forged or not: a field that a step gives ends behind the last one, and in its container
pub step_onward : (s : List ℕ) (c : Place) (l : Option Place) (q : Place) (n : ℕ) → step s c l ≡ step_met q n → Onward c (behind l) q
step_onward s c l q n z = step_inv s c l q n z λ f b i h.
    let w = in_along s c f b (from b l) q n i.inside h in
    record { further = omega (arith, from_behind b l, w.onward i.full); within = w.within }

-- a step answers "wrong kind" on a leaf only
no_wrong : (s : List ℕ) (c : Place) (f : Form) (begin at : ℕ) → step_in s c f begin at ≡ Err WrongKind → ⊥
no_wrong s c f begin at z = go (ltb at begin || ltb c.end at) (eqb at c.end) (meet (c.depth + 1) c.end f (slice at c.end s)) z
  where
    go : (b₁ b₂ : Bool) (o : Out (List ℕ × Place)) → cond b₁ (Err (Fault Early)) (cond b₂ (Ok None) (step_of o)) ≡ Err WrongKind → ⊥
    go true b₂ o z = clash (cc)
    go false true o z = clash (cc)
    go false false (fault k) z = clash (cc)
    go false false (got x fs r) z = clash (cc)

pub wrong_leaf : {X : Type 0} (s : List ℕ) (c : Place) (l : Option Place) → step s c l ≡ Err WrongKind
    → ((v : Leaf) (fs : List Flaw) (r : List ℕ) → check s c ≡ got (value v) fs r → X) → X
unfolding step
wrong_leaf {X} s c l z k = at (check s c) refl z
  where
    at : (o : Out Head) → check s c ≡ o → step_from s c l o ≡ Err WrongKind → X
    at (fault j) e h = clash (cc)
    at (got (value v) fs r) e h = k v fs r e
    at (got (fields_in f b) fs r) e h = absurd (no_wrong s c f (c.end - length b) (from (c.end - length b) l) h)
    at (got (items_in f n b) fs r) e h = absurd (no_wrong s c f (c.end - length b) (from (c.end - length b) l) h)
