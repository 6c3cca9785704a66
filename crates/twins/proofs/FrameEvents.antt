-- The events of a frame that the lax reader meets: its own, and those inside it; of which objects they are, and where they stand. And the same of the frames
-- up to a close.
use Prim.Native.Nat.{ℕ, zero, suc, ◌≤◌, ◌<◌}
use native.Mathlib.Omega.{arith}
use mathlib.Core.Path.{◌≡◌, refl, ap, ◌∙◌}
use mathlib.Core.Bool.{Bool, true, false, cond}
use mathlib.Core.List.{List, [], ◌∷◌, ◌++◌}
use lib.ListN.{length}
use lib.Dec.{eqb}
use Rattle.number.specs.BigEndian.{All}
use Rattle.format.proofs.Lists.{all_of, all_pure, all_right}
use Rattle.frames.specs.WriteList.{Frames, refused, framed, next, until_close}
use Rattle.frames.proofs.FrontLaws.{never, next_got}
use Rattle.twins.specs.Lax.{LaxReader}
use Rattle.twins.specs.Events.{Event, after, own_event, events_until, EventReader, Falls}
use Rattle.twins.proofs.EventLaws.{all_append, falls_append}

abbrev pub own_if : Bool → List Event → List Event
own_if true es = es
own_if false es = []

-- its object begins, and it stands itself, before the last j bytes
abbrev pub Before : ℕ → Event → Type 0
Before j e = (j ≤ e.object) × (j < length e.from)

-- a frame at s in the object at k: L is what the lax reader says; its events E are its own, O, and those inside it, I
pub record At {A : Type 0} (named : Bool) (k : ℕ) (s : List ℕ) (L : Frames (List ℕ × A)) (E O I : List Event) : Type 0 where
  pub shape : E ≡ O ++ I
  pub own : All (λ e. e.object ≡ k) O
  pub low : All (λ e. e.object < length s) I
  pub falls : Falls (suc (length s)) E
  pub takes : (x : List ℕ × A) (r : List ℕ) → L ≡ framed x r → length r < length s
  pub read : (x : List ℕ × A) (r : List ℕ) → L ≡ framed x r → O ≡ own_event named k s x.0
  pub before : (x : List ℕ × A) (r : List ℕ) → L ≡ framed x r → length s ≤ k → All (Before (length r)) E

-- of every frame
abbrev pub AllAt : {A : Type 0} → LaxReader A → EventReader → (ℕ → List ℕ → List Event) → (Bool → List ℕ → List Event) → Type 0
AllAt l e o i = (named : Bool) (k : ℕ) (s : List ℕ) → At named k s (l named s) (e named k s) (own_if named (o k s)) (i named s)

-- ---- frames up to the close

module _ {X : Type 0} (q : List ℕ → Frames X) (takes : (s : List ℕ) (x : X) (r : List ℕ) → q s ≡ framed x r → length r < length s) where
  pub until_all : (m : ℕ) (P : Event → Type 0) (e : List ℕ → List Event) → ((s : List ℕ) → length s ≤ m → All P (e s))
      → (n : ℕ) (s : List ℕ) → length s ≤ m → All P (events_until q e n s)
  until_all m P e f zero s c = tt
  until_all m P e f (suc n) [] c = tt
  until_all m P e f (suc n) (b ∷ s) c = closes (λ r d. until_all m P e f n r d) (eqb b 0)
    where
      On : Type 0
      On = (r : List ℕ) → length r ≤ m → All P (events_until q e n r)

      step : On → (o : Frames X) → q (b ∷ s) ≡ o → All P (after [] o λ x r. events_until q e n r)
      step on (refused n r) j = tt
      step on (framed x r) j = on r (let z = takes (b ∷ s) x r j in omega arith)

      closes : On → (z : Bool) → All P (cond z [] (e (b ∷ s) ++ after [] (q (b ∷ s)) λ x r. events_until q e n r))
      closes on true = tt
      closes on false = all_append P (e (b ∷ s)) _ (f (b ∷ s) c) (step on (q (b ∷ s)) refl)

  pub until_falls : (m : ℕ) (e : List ℕ → List Event) → ((s : List ℕ) → length s ≤ m → Falls (suc (length s)) (e s))
      → ((s : List ℕ) (x : X) (r : List ℕ) → length s ≤ m → q s ≡ framed x r → All (λ e. suc (length r) ≤ length e.from) (e s))
      → (n : ℕ) (s : List ℕ) → length s ≤ m → Falls (suc (length s)) (events_until q e n s)
  until_falls m e f g zero s c = tt
  until_falls m e f g (suc n) [] c = tt
  until_falls m e f g (suc n) (b ∷ s) c = closes (λ r d. until_falls m e f g n r d) (eqb b 0)
    where
      t : List ℕ
      t = b ∷ s

      On : Type 0
      On = (r : List ℕ) → length r ≤ m → Falls (suc (length r)) (events_until q e n r)

      step : On → (o : Frames X) → q t ≡ o → Falls (suc (length t)) (e t ++ after [] o λ x r. events_until q e n r)
      step on (refused n r) j =
          falls_append (suc (length t)) 0 (e t) [] (omega arith) (f t c) (all_pure (λ e. 0 ≤ length e.from) (λ e. omega arith) (e t)) tt
      step on (framed x r) j =
          let z = takes t x r j in
          falls_append (suc (length t)) (suc (length r)) (e t) (events_until q e n r) (omega arith) (f t c) (g t x r c j) (on r (omega arith))

      closes : On → (z : Bool) → Falls (suc (length t)) (cond z [] (e t ++ after [] (q t) λ x r. events_until q e n r))
      closes on true = tt
      closes on false = step on (q t) refl

-- ---- the frames of a container

module _ {A : Type 0} {l : LaxReader A} {e : EventReader} {o : ℕ → List ℕ → List Event} {i : Bool → List ℕ → List Event} (g : AllAt l e o i) where
  pub takes_of : (named : Bool) (s : List ℕ) (x : List ℕ × A) (r : List ℕ) → l named s ≡ framed x r → length r < length s
  takes_of named s x r h = (g named 0 s).takes x r h

  -- the objects inside a frame begin before what is left behind it
  pub inner_before : (named : Bool) (s : List ℕ) (x : List ℕ × A) (r : List ℕ) → l named s ≡ framed x r → All (λ e. length r ≤ e.object) (i named s)
  inner_before named s x r h =
      let a = g named (length s) s in
      let b : All (Before (length r)) (own_if named (o (length s) s) ++ i named s) = rw a.shape at (a.before x r h (omega arith)) in
      all_of (Before (length r)) (λ e. length r ≤ e.object) (λ e z. z.0) (i named s)
      (all_right (Before (length r)) (own_if named (o (length s) s)) (i named s) b)

  pub until_before : (named : Bool) (k n : ℕ) (free : List (List ℕ)) (s : List ℕ) (xs : List (List ℕ × A)) (r : List ℕ) → length s ≤ k
      → until_close (λ u. l named) n free s ≡ framed xs r → All (Before (length r)) (events_until (l named) (e named k) n s) × (length r ≤ length s)
  until_before named k zero free s xs r c h = never h
  until_before named k (suc n) free [] xs r c h = never h
  until_before named k (suc n) free (b ∷ s) xs r c h =
      closes (λ x q ys j i. let y = takes_of named (b ∷ s) x q j in until_before named k n (x.0 ∷ free) q ys r (omega arith) i) (eqb b 0) h
    where
      t : List ℕ
      t = b ∷ s

      Fine : List ℕ → List Event → Type 0
      Fine q es = All (Before (length r)) es × (length r ≤ length q)

      On : Type 0
      On = (x : List ℕ × A) (q : List ℕ) (ys : List (List ℕ × A)) → l named t ≡ framed x q → until_close (λ u. l named) n (x.0 ∷ free) q ≡ framed ys r
          → Fine q (events_until (l named) (e named k) n q)

      rest : List ℕ × A → List ℕ → Frames (List (List ℕ × A))
      rest x q = next (until_close (λ u. l named) n (x.0 ∷ free) q) λ xs q. framed (x ∷ xs) q

      step : On → (y : Frames (List ℕ × A)) → l named t ≡ y → next y rest ≡ framed xs r
          → Fine t (e named k t ++ after [] y λ x r. events_until (l named) (e named k) n r)
      step on (refused m q) j h = never h
      step on (framed x q) j h = next_got (until_close (λ u. l named) n (x.0 ∷ free) q) _ h λ ys u i i'.
          let z : u ≡ r = cc in
          let f = on x q ys j (i ∙ ap (framed ys) z) in
          let m = g named k t in
          let y = m.takes x q j in
          let y₁ = f.1 in
          let own = all_of (Before (length q)) (Before (length r)) (λ e w. let w₀ = w.0 in let w₁ = w.1 in (omega arith, omega arith)) (e named k t)
          (m.before x q j c) in
          (all_append (Before (length r)) (e named k t) (events_until (l named) (e named k) n q) own f.0, omega arith)

      closes : On → (z : Bool) → cond z (framed [] s) (next (l named t) rest) ≡ framed xs r
          → Fine t (cond z [] (e named k t ++ after [] (l named t) λ x r. events_until (l named) (e named k) n r))
      closes on true h = let z : s ≡ r = cc in (tt, omega (arith, ap length z))
      closes on false h = step on (l named t) refl h

  frame_low : (named : Bool) (k : ℕ) (s : List ℕ) → length s ≤ k → All (λ e. e.object ≤ k) (e named k s)
  frame_low named k s c =
      let a = g named k s in
      rw a.shape (all_append (λ e. e.object ≤ k) (own_if named (o k s)) (i named s)
      (all_of (λ e. e.object ≡ k) (λ e. e.object ≤ k) (λ e z. omega arith) (own_if named (o k s)) a.own)
      (all_of (λ e. e.object < length s) (λ e. e.object ≤ k) (λ e z. omega arith) (i named s) a.low))

  pub contents_low : (named : Bool) (s : List ℕ) → All (λ e. e.object ≤ length s) (events_until (l named) (e named (length s)) (length s) s)
  contents_low named s =
      until_all (l named) (takes_of named) (length s) (λ e. e.object ≤ length s) (e named (length s)) (frame_low named (length s)) (length s) s (omega arith)

  pub contents_falls : (named : Bool) (s : List ℕ) → Falls (suc (length s)) (events_until (l named) (e named (length s)) (length s) s)
  contents_falls named s =
      let k = length s in
      until_falls (l named) (takes_of named) k (e named k) (λ q c. (g named k q).falls)
      (λ q x r c j. all_of (Before (length r)) (λ e. length r < length e.from) (λ e z. z.1) (e named k q) ((g named k q).before x r j c)) k s (omega arith)
