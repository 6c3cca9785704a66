-- What was met: the type of it, reading on from it, and views that take no notice of flaws.
use Prim.Native.Nat.{ℕ}
use mathlib.Core.Path.{◌≡◌, refl, sym, ap, ◌∙◌, subst}
use mathlib.Core.List.{List, [], ◌∷◌, ◌++◌, append_assoc}
use Rattle.format.specs.declared.Kind.{Kind}
use Rattle.format.specs.declared.Form.{Form}
use Rattle.format.specs.declared.Flaw.{Flaw}
use Rattle.format.specs.Parse.{Out, fault, got, with_flaws, bind, make}
use Rattle.format.specs.Payload.{Head, front, head}
use Rattle.format.proofs.Lists.{append_nil}
use Rattle.format.proofs.Local.{bind_got}
use Rattle.head.specs.Code.{meeting}

-- a name and a kind; the payload and what follows it, and the payload's head
abbrev pub Meeting : Type 0
Meeting = (List ℕ × Kind) × (List ℕ × Head)

-- ---- flaws do not matter

abbrev pub Blind : {A B : Type 0} → (Out A → B) → Type 0
Blind {A} v = (a : A) (fs gs : List Flaw) (r : List ℕ) → v (got a fs r) ≡ v (got a gs r)

pub blind : {A B : Type 0} (v : Out A → B) → Blind v → (fs : List Flaw) (o : Out A) → v (with_flaws fs o) ≡ v o
blind v b [] o = refl
blind v b (f ∷ fs) (fault k) = refl
blind v b (f ∷ fs) (got a gs r) = b a (f ∷ fs ++ gs) gs r

-- ---- reading on

with_with : {A : Type 0} (fs gs : List Flaw) (o : Out A) → with_flaws fs (with_flaws gs o) ≡ with_flaws (fs ++ gs) o
with_with [] gs o = refl
with_with (f ∷ fs) [] o = ap (λ l. with_flaws l o) (sym (append_nil (f ∷ fs)))
with_with (f ∷ fs) (g ∷ gs) (fault k) = refl
with_with (f ∷ fs) (g ∷ gs) (got a hs r) = ap (λ l. got a (f ∷ l) r) (sym (append_assoc fs (g ∷ gs) hs))

pub bind_bind : {A B C : Type 0} (o : Out A) (g : A → List ℕ → Out B) (h : B → List ℕ → Out C) → bind (bind o g) h ≡ bind o (λ a r. bind (g a r) h)
bind_bind (fault k) g h = refl
bind_bind (got a fs q) g h = go fs (g a q)
  where
    go : (fs : List Flaw) (o : Out _) → bind (with_flaws fs o) h ≡ with_flaws fs (bind o h)
    go [] o = refl
    go (f ∷ fs) (fault k) = refl
    go (f ∷ fs) (got b gs r) = sym (with_with (f ∷ fs) gs (h b r))

pub bind_same : {A B : Type 0} (o : Out A) (g h : A → List ℕ → Out B)
    → ((a : A) (fs : List Flaw) (r : List ℕ) → o ≡ got a fs r → g a r ≡ h a r) → bind o g ≡ bind o h
bind_same (fault k) g h e = refl
bind_same (got a fs r) g h e = ap (with_flaws fs) (e a fs r refl)

pub meeting_then : {B : Type 0} (f : Form) (s : List ℕ) (k : Meeting → List ℕ → Out B)
    → bind (meeting f s) k ≡ (bind (front f s) λ x r. bind (head x.1 r) λ h q. k (x, (r, h)) q)
meeting_then f s k =
    bind_bind (front f s) (λ x r. make (λ h. (x, (r, h))) (head x.1 r)) k
    ∙ bind_same (front f s) _ _ λ x _ r _. bind_bind (head x.1 r) (λ h q. got (x, (r, h)) [] q) k

pub meeting_got : (f : Form) (s : List ℕ) {y : Meeting} {fs : List Flaw} {q : List ℕ} → meeting f s ≡ got y fs q
    → ((es : List Flaw) × (front f s ≡ got y.0 es y.1.0)) × ((gs : List Flaw) × (head y.0.1 y.1.0 ≡ got y.1.1 gs q))
meeting_got f s {y} {fs} {q} e = bind_got (front f s) _ e λ x es r gs i w _. bind_got (head x.1 r) _ w λ h es' u gs' i' w' _.
    let z : ◌≡◌ {A = Meeting} (x, (r, h)) y = cc in
    let v : u ≡ q = cc in
    subst (λ (y : Meeting). ((es : List Flaw) × (front f s ≡ got y.0 es y.1.0)) × ((gs : List Flaw) × (head y.0.1 y.1.0 ≡ got y.1.1 gs q)))
    z
    ((es, i), (es', subst (λ t. head x.1 r ≡ got h es' t) v i'))
