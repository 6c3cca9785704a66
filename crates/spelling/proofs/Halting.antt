-- Where a reader stops, and with what (specs/Halts.antt): both directions, kept by the ways of putting readers together.
use Prim.Native.Nat.{ℕ}
use native.Mathlib.Omega.{arith}
use mathlib.Core.Path.{◌≡◌, refl, sym, ap, subst, ◌∙◌}
use mathlib.Core.Logic.{inl, inr}
use mathlib.Core.Bool.{Bool, true, false, cond}
use mathlib.Core.List.{List, [], ◌∷◌, ◌++◌}
use lib.ListN.{length, take, drop, length-append, take-append-drop}
use lib.Seq.{take_at, length-take-le}
use lib.Dec.{ltb}
use borrow.Author.Tests.{ltb-true, ltb-false, lt-ltb, le-ltb}
use Rattle.number.specs.BigEndian.{Bytes}
use Rattle.number.proofs.BigEndianLaws.{bytes_take}
use Rattle.format.specs.declared.Stop.{Stop}
use Rattle.format.specs.declared.Stop.TheVariants.{Early}
use Rattle.format.specs.declared.Flaw.{Flaw}
use Rattle.format.specs.Parse.{Out, fault, got, with_flaws, bind, raise, make, whole, read_var_uint, fixed, sized}
use Rattle.spelling.specs.Spells.{any_form}
use Rattle.spelling.specs.Halts.{OrBehind, SizeCut, NumberHalts, BytesHalt, SizedHalts}
use Rattle.format.proofs.Back.{never}
use Rattle.format.proofs.Lists.{bytes_right}
use Rattle.spelling.proofs.Grammar.{Front}
use Rattle.spelling.proofs.SpelledNumbers.{Any, any_number}

-- ---- what stopped

pub with_stop : {A : Type 0} (fs : List Flaw) (k : Stop) → with_flaws {A = A} fs (fault k) ≡ fault k
with_stop [] k = refl
with_stop (f ∷ fs) k = refl

with_fault : {A : Type 0} (fs : List Flaw) (o : Out A) {k : Stop} → with_flaws fs o ≡ fault k → o ≡ fault k
with_fault [] o h = h
with_fault (f ∷ fs) (fault n) h = h
with_fault (f ∷ fs) (got a gs r) h = never (sym h)

pub bind_fault : {A B X : Type 0} (o : Out A) (g : A → List ℕ → Out B) {k : Stop} → bind o g ≡ fault k → (o ≡ fault k → X)
    → ((a : A) (fs : List Flaw) (q : List ℕ) → o ≡ got a fs q → g a q ≡ fault k → X) → X
bind_fault (fault n) g h c d = c (cc)
bind_fault (got a fs q) g h c d = d a fs q refl (with_fault fs (g a q) h)

pub bind_stop : {A B : Type 0} (o : Out A) (g : A → List ℕ → Out B) (a : A) (fs : List Flaw) (q : List ℕ) (k : Stop) → o ≡ got a fs q → g a q ≡ fault k
    → bind o g ≡ fault k
bind_stop o g a fs q k e i = rw (e, i) (with_stop fs k)

pub whole_fault : {A X : Type 0} (o : Out A) (r : List ℕ) {k : Stop} → whole o r ≡ fault k → (o ≡ fault k → X)
    → ((a : A) (fs : List Flaw) (b : ℕ) (q : List ℕ) → o ≡ got a fs (b ∷ q) → k ≡ Early → X) → X
whole_fault (fault n) r h c d = c h
whole_fault (got a fs []) r h c d = never (sym h)
whole_fault (got a fs (b ∷ q)) r h c d = d a fs b q refl (cc)

pub raise_fault : {A : Type 0} (x : Bool) (f : Flaw) (o : Out A) {k : Stop} → raise x f o ≡ fault k → o ≡ fault k
raise_fault true f o h = with_fault (f ∷ []) o h
raise_fault false f o h = h

pub raise_never : {A X : Type 0} (x : Bool) (f : Flaw) (a : A) (r : List ℕ) {k : Stop} → raise x f (got a [] r) ≡ fault k → X
raise_never true f a r h = never (sym h)
raise_never false f a r h = never (sym h)

-- ---- a reader stops with k exactly where H says so

pub record Halt {A : Type 0} (p : List ℕ → Out A) (H : Stop → List ℕ → Type 0) : Type 0 where
  pub to : (s : List ℕ) (k : Stop) → Bytes s → p s ≡ fault k → H k s
  pub from : (k : Stop) (s : List ℕ) → H k s → p s ≡ fault k

pub halt_self : {A : Type 0} (p : List ℕ → Out A) → Halt p (λ k s. p s ≡ fault k)
halt_self p = record { to = λ s k y e. e; from = λ k s e. e }

pub halt_as : {A : Type 0} (p : List ℕ → Out A) (H J : Stop → List ℕ → Type 0) → ((k : Stop) (s : List ℕ) → Bytes s → H k s → J k s)
    → ((k : Stop) (s : List ℕ) → J k s → H k s) → Halt p H → Halt p J
halt_as p H J f g h = record { to = λ s k y e. f k s y (h.to s k y e); from = λ k s i. h.from k s (g k s i) }

pub halt_bind : {A B : Type 0} (p : List ℕ → Out A) (g : A → List ℕ → Out B) (S : A → List ℕ → Type 0) (H : Stop → List ℕ → Type 0)
    (K : A → Stop → List ℕ → Type 0)
    → Front Any p S → Halt p H → ((a : A) → Halt (g a) (K a)) → Halt (λ s. bind (p s) g) (OrBehind H S K)
halt_bind p g S H K f h i = record {
  to = λ s k y e. bind_fault (p s) g e (λ j. inl (h.to s k y j))
      (λ a fs q j l. let w = f.to s a fs q y j tt in inr (a, w.0, q, w.1, w.2, (i a).to q k (bytes_right _ w.0 q y w.1) l));
  from = back;
}
  where
    back : (k : Stop) (s : List ℕ) → OrBehind H S K k s → bind (p s) g ≡ fault k
    back k s (inl j) = rw (h.from k s j)
    back k s (inr j) =
        let w = f.from j.0 j.1 j.4 j.2 in
        bind_stop (p s) g j.0 w.0 j.2 k (subst (λ s. p s ≡ got j.0 w.0 j.2) (sym j.3) w.2) ((i j.0).from k j.2 j.5)

-- what never stops
pub halt_none : {A : Type 0} (p : List ℕ → Out A) → ((s : List ℕ) (k : Stop) → p s ≡ fault k → ⊥) → Halt p (λ k s. ⊥)
halt_none p f = record { to = λ s k y e. f s k e; from = λ k s i. absurd i }

pub halt_then : {A B : Type 0} (p : List ℕ → Out A) (g : A → List ℕ → Out B) (H : Stop → List ℕ → Type 0)
    → ((a : A) (r : List ℕ) (k : Stop) → g a r ≡ fault k → ⊥) → Halt p H
    → Halt (λ s. bind (p s) g) H
halt_then p g H f h = record { to = λ s k y e. bind_fault (p s) g e (h.to s k y) (λ a fs q i j. absurd (f a q k j)); from = λ k s i. rw (h.from k s i) }

pub halt_make : {A B : Type 0} (g : A → B) (p : List ℕ → Out A) (H : Stop → List ℕ → Type 0) → Halt p H → Halt (λ s. make g (p s)) H
halt_make g p H = halt_then p (λ a r. got (g a) [] r) H (λ a r k e. never (sym e))

pub halt_flag : {A B : Type 0} (g : A → B) (t : A → Bool) (f : Flaw) (p : List ℕ → Out A) (H : Stop → List ℕ → Type 0) → Halt p H
    → Halt (λ s. bind (p s) λ a r. raise (t a) f (got (g a) [] r)) H
halt_flag g t f p H = halt_then p (λ a r. raise (t a) f (got (g a) [] r)) H (λ a r k e. raise_never (t a) f (g a) r e)

pub halt_fixed : (n : ℕ) → Halt (fixed n) (BytesHalt n)
unfolding fixed
halt_fixed n = record { to = λ s k y e. go s k (ltb (length s) n) refl e; from = λ k s i. rw (i.0, lt-ltb (length s) n i.1) }
  where
    go : (s : List ℕ) (k : Stop) (x : Bool) → ltb (length s) n ≡ x → cond x (fault Early) (got (take n s) [] (drop n s)) ≡ fault k → BytesHalt n k s
    go s k true e h = (cc, ltb-true (length s) n e)
    go s k false e h = never (sym h)

-- a size, and a part that uses up what it counts
module _ (num : Halt read_var_uint NumberHalts) {A : Type 0} (p : List ℕ → Out A) (H : Stop → List ℕ → Type 0)
    (uses : (b : List ℕ) (a : A) (fs : List Flaw) (r : List ℕ) → p b ≡ got a fs r → r ≡ []) (h : Halt p H) where
  sized_to : (s : List ℕ) (k : Stop) (n : ℕ) (u q : List ℕ) → s ≡ u ++ q → Bytes q → any_form n u → (x : Bool) → ltb (length q) n ≡ x
      → cond x (fault Early) (whole (p (take n q)) (drop n q)) ≡ fault k → SizedHalts H k s
  sized_to s k n u q e y v true l i = inl (cc, inr (n, u, q, e, v, ltb-true (length q) n l))
  sized_to s k n u q e y v false l i = whole_fault (p (take n q)) (drop n q) i
      (λ j. inr (
        u,
        take n q,
        drop n q,
        e ∙ ap (λ z. u ++ z) (sym (take-append-drop n q)),
        subst (λ z. any_form z u)
            (sym (length-take-le n q (ltb-false (length q) n l))) v,
        h.to (take n q) k (bytes_take n q y) j,
      ))
      (λ a fs b r j _. absurd (let z : b ∷ r ≡ [] = uses (take n q) a fs (b ∷ r) j in let z' : ◌≡◌ {A = ℕ} 0 1 = cc in omega arith))

  size_fits : (k : Stop) (b r : List ℕ) → H k b
      → cond (ltb (length (b ++ r)) (length b)) (fault Early) (whole (p (take (length b) (b ++ r))) (drop (length b) (b ++ r))) ≡ fault k
  size_fits k b r i = rw (le-ltb (length (b ++ r)) (length b) (rw (length-append b r) (omega arith)), take_at b r (length b) refl, h.from k b i)

  size_cut : (k : Stop) (s : List ℕ) → k ≡ Early → SizeCut s → sized p s ≡ fault k
  size_cut k s e (inl c) = rw (e, num.from Early s (refl, c))
  size_cut k s e (inr i) =
      let w = any_number.from i.0 i.1 i.4 i.2 in
      bind_stop (read_var_uint s) _ i.0 w.0 i.2 k (subst (λ s. read_var_uint s ≡ got i.0 w.0 i.2) (sym i.3) w.2)
      (rw (lt-ltb (length i.2) i.0 i.5, e))

  sized_from : (k : Stop) (s : List ℕ) → SizedHalts H k s → sized p s ≡ fault k
  sized_from k s (inl i) = size_cut k s i.0 i.1
  sized_from k s (inr i) =
      let w = any_number.from (length i.1) i.0 i.4 (i.1 ++ i.2) in
      bind_stop (read_var_uint s) _ (length i.1) w.0 (i.1 ++ i.2) k
      (subst (λ s. read_var_uint s ≡ got (length i.1) w.0 (i.1 ++ i.2)) (sym i.3) w.2) (size_fits k i.1 i.2 i.5)

  pub halt_sized : Halt (sized p) (SizedHalts H)
  halt_sized = record {
    to = λ s k y e. bind_fault (read_var_uint s) _ e (λ i. let j = num.to s k y i in inl (j.0, inl j.1))
        (λ n fs q i j.
        let w = any_number.to s n fs q y i tt in
        sized_to s k n w.0 q w.1 (bytes_right _ w.0 q y w.1) w.2 (ltb (length q) n) refl j);
    from = sized_from;
  }
