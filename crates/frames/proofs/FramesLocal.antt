-- Frames up to a close, of a reader of frames: what was read stands at the front of the list, and reads the same whatever stands behind it; and a refusal
-- carries an end of the list at which a frame begins, and the list cut there is refused because it ends.
use Prim.Native.Nat.{ℕ, zero, suc, ◌≤◌}
use native.Mathlib.Omega.{arith}
use mathlib.Core.Path.{◌≡◌, refl, sym, ap, ◌∙◌}
use mathlib.Core.Logic.{◌⊎◌, inl, inr}
use mathlib.Core.Bool.{Bool, true, false, cond}
use mathlib.Core.List.{List, [], ◌∷◌, ◌++◌, append_assoc}
use lib.ListN.{length, length-append}
use lib.Dec.{eqb}
use Rattle.frames.specs.declared.Refusal.{Refusal}
use Rattle.frames.specs.declared.Refusal.TheVariants.{ListEnds, BadFrame, EmptyName, NameUsed, NotText, TooDeep, NoneOpen, Complete, ListTooLong}
use Rattle.frames.specs.declared.Refusal.TheVariants.{FewWorkNumbers, EncodingTooLong}
use Rattle.frames.specs.WriteList.{Frames, refused, framed, next, until_close}
use Rattle.frames.proofs.FrontLaws.{never, next_got}

-- a refusal is that of the first, or of what follows
pub next_refused : {A B X : Type 0} (o : Frames A) (g : A → List ℕ → Frames B) {n : Refusal} {r : List ℕ} → next o g ≡ refused n r
    → (o ≡ refused n r → X) → ((a : A) (q : List ℕ) → o ≡ framed a q → g a q ≡ refused n r → X) → X
next_refused {A} (refused m q) g {n} {r} h c k =
    let x : m ≡ n = cc in
    let y : q ≡ r = cc in
    c (rw (x, y))
next_refused (framed a q) g h c k = k a q refl h

-- ---- what was read

-- at the front, and a byte at least
abbrev pub LocalFrames : {A : Type 0} → (List ℕ → Frames A) → Type 0
LocalFrames {A} p = (s : List ℕ) (a : A) (r : List ℕ) → p s ≡ framed a r
    → (w : List ℕ) × (s ≡ w ++ r) × (1 ≤ length w) × ((q : List ℕ) → p (w ++ q) ≡ framed a q)

-- ---- what was refused

-- with a number that a frame itself gives
abbrev pub OfFrame : Refusal → Type 0
OfFrame ListEnds = ⊥
OfFrame BadFrame = Unit {0}
OfFrame EmptyName = Unit {0}
OfFrame NameUsed = Unit {0}
OfFrame NotText = Unit {0}
OfFrame TooDeep = Unit {0}
OfFrame NoneOpen = ⊥
OfFrame Complete = ⊥
OfFrame ListTooLong = ⊥
OfFrame FewWorkNumbers = ⊥
OfFrame EncodingTooLong = ⊥

-- at a frame that begins where r begins in s. What stands before it, if it is not empty, is refused because it ends
pub record Cut {A : Type 0} (p : List ℕ → Frames A) (s : List ℕ) (n : Refusal) (r : List ℕ) : Type 0 where
  pub of_frame : OfFrame n
  pub before : List ℕ
  pub splits : s ≡ before ++ r
  pub some_left : 1 ≤ length r
  pub ends : 1 ≤ length before → p before ≡ refused ListEnds []

-- because the list ends, or at such a frame
abbrev pub Verdict : {A : Type 0} → (List ℕ → Frames A) → List ℕ → Refusal → List ℕ → Type 0
Verdict p s n r = ((n ≡ ListEnds) × (r ≡ [])) ⊎ Cut p s n r

abbrev pub Judges : {A : Type 0} → (List ℕ → Frames A) → Type 0
Judges p = (s : List ℕ) (n : Refusal) (r : List ℕ) → 1 ≤ length s → p s ≡ refused n r → Verdict p s n r

-- at the very frame
pub here : {A : Type 0} (p : List ℕ → Frames A) (s : List ℕ) (n : Refusal) (r : List ℕ) → OfFrame n → 1 ≤ length s → s ≡ r → Verdict p s n r
here p s n r o l e = inr (record { of_frame = o; before = []; splits = e; some_left = rw (← e) l; ends = λ h. absurd (omega arith) })

-- ---- frames up to the close

module _ {A : Type 0} (p : List (List ℕ) → List ℕ → Frames (List ℕ × A)) (loc : (used : List (List ℕ)) → LocalFrames (p used)) where
  pub until_got : (m : ℕ) (used : List (List ℕ)) (s : List ℕ) (xs : List (List ℕ × A)) (r : List ℕ) → until_close p m used s ≡ framed xs r
      → (w : List ℕ) × (s ≡ w ++ r) × (1 ≤ length w) × ((k : ℕ) (q : List ℕ) → length w ≤ k → until_close p k used (w ++ q) ≡ framed xs q)
  until_got zero used s xs r h = never h
  until_got (suc m) used [] xs r h = never h
  until_got (suc m) used (b ∷ s) xs r h = go (eqb b 0) refl (until_got m) h
    where
      closed : eqb b 0 ≡ true → xs ≡ [] → (k : ℕ) (q : List ℕ) → 1 ≤ k → until_close p k used (b ∷ q) ≡ framed xs q
      closed e z zero q l = absurd (omega arith)
      closed e z (suc k) q l = rw (e, z)

      onward : (x : List ℕ × A) (ys : List (List ℕ × A)) (v w : List ℕ) → eqb b 0 ≡ false → x ∷ ys ≡ xs → ((q : List ℕ) → p used ((b ∷ v) ++ q) ≡ framed x q)
          → ((k : ℕ) (q : List ℕ) → length w ≤ k → until_close p k (x.0 ∷ used) (w ++ q) ≡ framed ys q)
          → (k : ℕ) (q : List ℕ) → length ((b ∷ v) ++ w) ≤ k → until_close p k used (((b ∷ v) ++ w) ++ q) ≡ framed xs q
      onward x ys v w e z f g zero q l = absurd (omega arith)
      onward x ys v w e z f g (suc k) q l = rw (append_assoc (b ∷ v) w q, e, f (w ++ q), g k q (omega (arith, length-append v w)), z)

      first : (x : List ℕ × A) (ys : List (List ℕ × A)) (v w q u : List ℕ) → eqb b 0 ≡ false → x ∷ ys ≡ xs → b ∷ s ≡ v ++ q → 1 ≤ length v
          → ((q : List ℕ) → p used (v ++ q) ≡ framed x q)
          → q ≡ w ++ r → ((k : ℕ) (q : List ℕ) → length w ≤ k → until_close p k (x.0 ∷ used) (w ++ q) ≡ framed ys q)
          → (w : List ℕ) × (b ∷ s ≡ w ++ r) × (1 ≤ length w) × ((k : ℕ) (q : List ℕ) → length w ≤ k → until_close p k used (w ++ q) ≡ framed xs q)
      first x ys [] w q u e z i l f j g = absurd (omega arith)
      first x ys (a ∷ v) w q u e z i l f j g =
          let y : b ≡ a = cc in
          ((b ∷ v) ++ w, rw (append_assoc (b ∷ v) w r, ← j) (i ∙ ap (λ t. t ∷ (v ++ q)) (sym y)), omega arith, onward x ys v w e z (rw (← y) at f) g)

      go : (t : Bool) → eqb b 0 ≡ t
          → ((used : List (List ℕ)) (s : List ℕ) (xs : List (List ℕ × A)) (r : List ℕ) → until_close p m used s ≡ framed xs r
          → (w : List ℕ) × (s ≡ w ++ r) × (1 ≤ length w) × ((k : ℕ) (q : List ℕ) → length w ≤ k → until_close p k used (w ++ q) ≡ framed xs q))
          → cond t (framed [] s) (next (p used (b ∷ s)) λ x r. next (until_close p m (x.0 ∷ used) r) λ xs q. framed (x ∷ xs) q) ≡ framed xs r
          → (w : List ℕ) × (b ∷ s ≡ w ++ r) × (1 ≤ length w) × ((k : ℕ) (q : List ℕ) → length w ≤ k → until_close p k used (w ++ q) ≡ framed xs q)
      go true e ih h = let z : s ≡ r = cc in (b ∷ [], ap (λ t. b ∷ t) z, omega arith, closed e (cc))
      go false e ih h = next_got (p used (b ∷ s)) _ h λ x q i k. next_got (until_close p m (x.0 ∷ used) q) _ k λ ys u j l.
          let f = loc used (b ∷ s) x q i in
          let g = ih (x.0 ∷ used) q ys u j in
          let z : u ≡ r = cc in
          first x ys f.0 g.0 q u e (cc) f.1 f.2 f.3 (g.1 ∙ ap (λ t. g.0 ++ t) z) g.3

  module _ (ref : (used : List (List ℕ)) → Judges (p used)) where
    -- whatever the bound is: a list that ends and a bound that is reached are refused alike
    abbrev CutAll : List (List ℕ) → List ℕ → Refusal → List ℕ → Type 0
    CutAll used s n r = OfFrame n × ((w : List ℕ) × (s ≡ w ++ r) × (1 ≤ length r) × ((k : ℕ) → until_close p k used w ≡ refused ListEnds []))

    pub until_refused : (m : ℕ) (used : List (List ℕ)) (s : List ℕ) (n : Refusal) (r : List ℕ) → until_close p m used s ≡ refused n r
        → ((n ≡ ListEnds) × (r ≡ [])) ⊎ CutAll used s n r
    until_refused zero used s n r h = inl (cc, cc)
    until_refused (suc m) used [] n r h = inl (cc, cc)
    until_refused (suc m) used (b ∷ s) n r h = go (eqb b 0) refl (until_refused m) h
      where
        cut : (w : List ℕ) → b ∷ s ≡ w ++ r → eqb b 0 ≡ false → (1 ≤ length w → p used w ≡ refused ListEnds []) → (k : ℕ)
            → until_close p k used w ≡ refused ListEnds []
        cut w e z f zero = refl
        cut [] e z f (suc k) = refl
        cut (a ∷ w) e z f (suc k) =
            let y : b ≡ a = cc in
            rw (← y, z, y) (rw (f (omega arith)))

        later : (x : List ℕ × A) (v w q : List ℕ) → b ∷ s ≡ v ++ q → 1 ≤ length v → eqb b 0 ≡ false → ((q : List ℕ) → p used (v ++ q) ≡ framed x q)
            → ((k : ℕ) → until_close p k (x.0 ∷ used) w ≡ refused ListEnds []) → (k : ℕ) → until_close p k used (v ++ w) ≡ refused ListEnds []
        later x v w q e l z f g zero = refl
        later x [] w q e l z f g (suc k) = absurd (omega arith)
        later x (a ∷ v) w q e l z f g (suc k) =
            let y : eqb a 0 ≡ false = (let t : b ≡ a = cc in rw t at z) in
            rw (y, f w, g k)

        go : (t : Bool) → eqb b 0 ≡ t
            → ((used : List (List ℕ)) (s : List ℕ) (n : Refusal) (r : List ℕ) → until_close p m used s ≡ refused n r
            → ((n ≡ ListEnds) × (r ≡ [])) ⊎ CutAll used s n r)
            → cond t (framed [] s) (next (p used (b ∷ s)) λ x r. next (until_close p m (x.0 ∷ used) r) λ xs q. framed (x ∷ xs) q) ≡ refused n r
            → ((n ≡ ListEnds) × (r ≡ [])) ⊎ CutAll used (b ∷ s) n r
        go true e ih h = never (sym h)
        go false e ih h = next_refused (p used (b ∷ s)) _ h (λ i. at (ref used (b ∷ s) n r (omega arith) i))
            (λ x q i k. next_refused (until_close p m (x.0 ∷ used) q) _ k (λ j. behind x q i (ih (x.0 ∷ used) q n r j)) (λ ys u j l. never (sym l)))
          where
            at : Verdict (p used) (b ∷ s) n r → ((n ≡ ListEnds) × (r ≡ [])) ⊎ CutAll used (b ∷ s) n r
            at (inl i) = inl i
            at (inr i) = inr (i.of_frame, (i.before, i.splits, i.some_left, cut i.before i.splits e i.ends))

            behind : (x : List ℕ × A) (q : List ℕ) → p used (b ∷ s) ≡ framed x q → ((n ≡ ListEnds) × (r ≡ [])) ⊎ CutAll (x.0 ∷ used) q n r
                → ((n ≡ ListEnds) × (r ≡ [])) ⊎ CutAll used (b ∷ s) n r
            behind x q i (inl j) = inl j
            behind x q i (inr j) =
                let f = loc used (b ∷ s) x q i in
                let w = j.1.0 in
                inr (j.0, (f.0 ++ w, rw (append_assoc f.0 w r, ← j.1.1) f.1, j.1.2, later x f.0 w q f.1 f.2 e f.3 j.1.3))
