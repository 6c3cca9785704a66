-- Passing frames without a check, up to a close, if it is known where the lax reader stops.
use Prim.Native.Nat.{ℕ, zero, suc, ◌≤◌, ◌<◌}
use native.Mathlib.Omega.{arith}
use mathlib.Core.Path.{◌≡◌, refl, sym, ap, ◌∙◌}
use mathlib.Core.Bool.{Bool, true, false, cond}
use mathlib.Core.Option.{Option, none, some}
use mathlib.Core.List.{List, [], ◌∷◌, ◌++◌}
use lib.ListN.{length}
use lib.Dec.{eqb, leb}
use borrow.Author.Tests.{lt-leb, leb-false}
use Rattle.frames.specs.declared.Refusal.{Refusal}
use Rattle.frames.specs.WriteList.{Frames, refused, framed, next, until_close}
use Rattle.twins.specs.Lax.{LaxReader}
use Rattle.twins.specs.Events.{Event, after, events_until}
use Rattle.twins.specs.Walk.{left_of, onward, pass_until, walk_until}

-- what a reader says of the frame at s, and what passing it gives. A reader that stops behind the frame: it is passed; inside it: it is not
pub record Passes {A : Type 0} (stop : ℕ) (s : List ℕ) (L : Frames A) (P : Option (List ℕ)) : Type 0 where
  pub on : (x : A) (r : List ℕ) → L ≡ framed x r → stop ≤ length r → P ≡ some r
  pub inside : (n : Refusal) (f : List ℕ) → L ≡ refused n f → stop ≡ length f → length f < length s → P ≡ none
  pub less : left_of L ≤ length s

module _ {A : Type 0} (stop : ℕ) (l : LaxReader A) (p : Bool → List ℕ → Option (List ℕ))
    (g : (named : Bool) (s : List ℕ) → Passes stop s (l named s) (p named s))
    (takes : (named : Bool) (s : List ℕ) (x : List ℕ × A) (r : List ℕ) → l named s ≡ framed x r → length r < length s) where
  -- the frames that follow
  abbrev tails : Bool → ℕ → List (List ℕ) → List ℕ × A → List ℕ → Frames (List (List ℕ × A))
  tails named n free x r = next (until_close (λ u. l named) n (x.0 ∷ free) r) λ xs q. framed (x ∷ xs) q

  tails_left : (named : Bool) (n : ℕ) (free : List (List ℕ)) (x : List ℕ × A) (r : List ℕ)
      → left_of (tails named n free x r) ≡ left_of (until_close (λ u. l named) n (x.0 ∷ free) r)
  tails_left named n free x r = go (until_close (λ u. l named) n (x.0 ∷ free) r)
    where
      go : (o : Frames (List (List ℕ × A))) → left_of (next o λ xs q. framed (x ∷ xs) q) ≡ left_of o
      go (refused n f) = refl
      go (framed xs q) = refl

  -- a refusal or the close stands no earlier
  pub until_less : (named : Bool) (n : ℕ) (free : List (List ℕ)) (s : List ℕ) → left_of (until_close (λ u. l named) n free s) ≤ length s
  until_less named zero free s = omega arith
  until_less named (suc n) free [] = omega arith
  until_less named (suc n) free (b ∷ s) = closes (λ x r. until_less named n (x.0 ∷ free) r) (eqb b 0)
    where
      On : Type 0
      On = (x : List ℕ × A) (r : List ℕ) → left_of (until_close (λ u. l named) n (x.0 ∷ free) r) ≤ length r

      step : On → (o : Frames (List ℕ × A)) → l named (b ∷ s) ≡ o → left_of o ≤ length (b ∷ s) → left_of (next o (tails named n free)) ≤ length (b ∷ s)
      step on (refused m f) j k = k
      step on (framed x r) j k = let z = takes named (b ∷ s) x r j in let y = on x r in rw (tails_left named n free x r) (omega arith)

      closes : On → (z : Bool) → left_of (cond z (framed [] s) (next (l named (b ∷ s)) (tails named n free))) ≤ length (b ∷ s)
      closes on true = omega arith
      closes on false = step on (l named (b ∷ s)) refl (g named (b ∷ s)).less

  -- a frame at which the reader is refused, or inside which, is passed by none of these
  at_refusal : {B : Type 0} (z : B) (k : List ℕ → B) (named : Bool) (t : List ℕ) (m : Refusal) (f : List ℕ) → l named t ≡ refused m f → stop ≡ length f
      → (x : Bool) → leb (length t) stop ≡ x → cond x z (onward z (p named t) k) ≡ z
  at_refusal z k named t m f j i true e = refl
  at_refusal z k named t m f j i false e = rw ((g named t).inside m f j i (omega (arith, leb-false (length t) stop e)))

  -- ---- what is left behind the close; or none

  abbrev pub Behind : Frames (List (List ℕ × A)) → Option (List ℕ) → Type 0
  Behind (refused n f) o = stop ≡ length f → o ≡ none
  Behind (framed xs r) o = stop ≤ length r → o ≡ some r

  behind_cons : (x : List ℕ × A) (o : Frames (List (List ℕ × A))) (w : Option (List ℕ)) → Behind o w → Behind (next o λ xs q. framed (x ∷ xs) q) w
  behind_cons x (refused n f) w h = h
  behind_cons x (framed xs r) w h = h

  pub until_passes : (named : Bool) (n : ℕ) (free : List (List ℕ)) (s : List ℕ)
      → Behind (until_close (λ u. l named) n free s) (pass_until (p named) stop n s)
  until_passes named zero free s = λ e. refl
  until_passes named (suc n) free [] = λ e. refl
  until_passes named (suc n) free (b ∷ s) = closes (λ x r. until_passes named n (x.0 ∷ free) r) (eqb b 0)
    where
      t : List ℕ
      t = b ∷ s

      on_from : Option (List ℕ)
      on_from = onward none (p named t) λ r. pass_until (p named) stop n r

      On : Type 0
      On = (x : List ℕ × A) (r : List ℕ) → Behind (until_close (λ u. l named) n (x.0 ∷ free) r) (pass_until (p named) stop n r)

      -- the frame was read with r left, and the reader stops no earlier
      follow : (o : Frames (List (List ℕ × A))) (r : List ℕ) → length r < length t → left_of o ≤ length r → (stop ≤ length r → p named t ≡ some r)
          → Behind o (pass_until (p named) stop n r) → Behind o (cond (leb (length t) stop) none on_from)
      follow (refused m f) r c d e h = λ i. let q = e (omega arith) in rw (lt-leb (length t) stop (omega arith), q) (h i)
      follow (framed xs u) r c d e h = λ i. let q = e (omega arith) in rw (lt-leb (length t) stop (omega arith), q) (h i)

      step : On → (o : Frames (List ℕ × A)) → l named t ≡ o → Behind (next o (tails named n free)) (cond (leb (length t) stop) none on_from)
      step on (refused m f) j = λ i. at_refusal none (λ r. pass_until (p named) stop n r) named t m f j i (leb (length t) stop) refl
      step on (framed x r) j =
          let z = takes named t x r j in
          follow (tails named n free x r) r z (rw (tails_left named n free x r) (until_less named n (x.0 ∷ free) r)) ((g named t).on x r j)
          (behind_cons x (until_close (λ u. l named) n (x.0 ∷ free) r) (pass_until (p named) stop n r) (on x r))

      closes : On → (z : Bool)
          → Behind (cond z (framed [] s) (next (l named t) (tails named n free))) (cond (leb (length t) stop) none (cond z (some s) on_from))
      closes on true = λ h. rw (lt-leb (length t) stop (omega arith))
      closes on false = step on (l named t) refl

  -- ---- the walk

  pub walk_is : (o : List ℕ → List Event) (n : ℕ) (free : List (List ℕ)) (s : List ℕ) → stop ≡ left_of (until_close (λ u. l true) n free s)
      → events_until (l true) o n s ≡ walk_until o (p true) stop n s
  walk_is o zero free s h = refl
  walk_is o (suc n) free [] h = refl
  walk_is o (suc n) free (b ∷ s) h = closes (λ x r i. walk_is o n (x.0 ∷ free) r i) (eqb b 0) h
    where
      t : List ℕ
      t = b ∷ s

      walk_from : List Event
      walk_from = cond (leb (length t) stop) [] (onward [] (p true t) λ r. walk_until o (p true) stop n r)

      On : Type 0
      On = (x : List ℕ × A) (r : List ℕ) → stop ≡ left_of (until_close (λ u. l true) n (x.0 ∷ free) r)
          → events_until (l true) o n r ≡ walk_until o (p true) stop n r

      step : On → (y : Frames (List ℕ × A)) → l true t ≡ y → stop ≡ left_of (next y (tails true n free))
          → (after [] y λ x r. events_until (l true) o n r) ≡ walk_from
      step on (refused m f) j i = sym (at_refusal [] (λ r. walk_until o (p true) stop n r) true t m f j i (leb (length t) stop) refl)
      step on (framed x r) j i =
          let z = takes true t x r j in
          let i₁ : stop ≡ left_of (until_close (λ u. l true) n (x.0 ∷ free) r) = i ∙ tails_left true n free x r in
          let y = until_less true n (x.0 ∷ free) r in
          rw (lt-leb (length t) stop (omega arith), (g true t).on x r j (omega arith)) (on x r i₁)

      closes : On → (z : Bool) → stop ≡ left_of (cond z (framed [] s) (next (l true t) (tails true n free)))
          → cond z [] (o t ++ after [] (l true t) λ x r. events_until (l true) o n r) ≡ cond z [] (o t ++ walk_from)
      closes on true i = refl
      closes on false i = ap (λ u. o t ++ u) (step on (l true t) refl i)
