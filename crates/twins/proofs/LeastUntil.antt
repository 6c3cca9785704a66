-- Frames up to a close: the events that a test keeps; and the first twin inside them.
use Prim.Native.Nat.{ℕ, zero, suc, ◌≤◌, ◌<◌}
use native.Mathlib.Omega.{arith}
use mathlib.Core.Path.{◌≡◌, refl, ◌∙◌}
use mathlib.Core.Bool.{Bool, true, false, cond}
use mathlib.Core.Option.{Option, none}
use mathlib.Core.List.{List, [], ◌∷◌, ◌++◌}
use lib.ListN.{length}
use lib.Dec.{eqb}
use Rattle.number.specs.BigEndian.{All}
use Rattle.format.proofs.Lists.{all_of}
use Rattle.frames.specs.WriteList.{Frames, refused, framed}
use Rattle.twins.specs.Events.{Event, after, events_until, first_twin, past}
use Rattle.twins.specs.Least.{first_of, until_twin}
use Rattle.twins.proofs.EventLaws.{twin_append, all_past}
use Rattle.twins.proofs.FrameEvents.{until_all}
use Rattle.twins.proofs.KeepLaws.{keep, keep_append, twin_fresh}

module _ {X : Type 0} (q : List ℕ → Frames X) (takes : (s : List ℕ) (x : X) (r : List ℕ) → q s ≡ framed x r → length r < length s) where
  pub until_keep : (m : ℕ) (t : ℕ → Bool) (e u : List ℕ → List Event) → ((s : List ℕ) → length s ≤ m → keep t (e s) ≡ u s)
      → (n : ℕ) (s : List ℕ) → length s ≤ m → keep t (events_until q e n s) ≡ events_until q u n s
  until_keep m t e u f zero s c = refl
  until_keep m t e u f (suc n) [] c = refl
  until_keep m t e u f (suc n) (b ∷ s) c = closes (λ r d. until_keep m t e u f n r d) (eqb b 0)
    where
      On : Type 0
      On = (r : List ℕ) → length r ≤ m → keep t (events_until q e n r) ≡ events_until q u n r

      step : On → (o : Frames X) → q (b ∷ s) ≡ o → keep t (after [] o λ x r. events_until q e n r) ≡ (after [] o λ x r. events_until q u n r)
      step on (refused n r) j = refl
      step on (framed x r) j = on r (let z = takes (b ∷ s) x r j in omega arith)

      closes : On → (z : Bool) → keep t (cond z [] (e (b ∷ s) ++ after [] (q (b ∷ s)) λ x r. events_until q e n r))
          ≡ cond z [] (u (b ∷ s) ++ after [] (q (b ∷ s)) λ x r. events_until q u n r)
      closes on true = refl
      closes on false = rw (keep_append t (e (b ∷ s)) (after [] (q (b ∷ s)) λ x r. events_until q e n r), f (b ∷ s) c, step on (q (b ∷ s)) refl)

  -- the events of a frame are of objects inside it, so none of the next frame has been seen
  pub until_least : (e : List ℕ → List Event) (t : List ℕ → Option (List ℕ)) → ((s : List ℕ) → first_twin [] (e s) ≡ t s)
      → ((s : List ℕ) → All (λ e. e.object < length s) (e s))
      → ((s : List ℕ) (x : X) (r : List ℕ) → q s ≡ framed x r → All (λ e. length r ≤ e.object) (e s))
      → (n : ℕ) (s : List ℕ) → first_twin [] (events_until q e n s) ≡ until_twin q t n s
  unfolding first_twin
  until_least e t f g h zero s = refl
  until_least e t f g h (suc n) [] = refl
  until_least e t f g h (suc n) (b ∷ s) = closes (λ r. until_least e t f g h n r) (eqb b 0)
    where
      On : Type 0
      On = (r : List ℕ) → first_twin [] (events_until q e n r) ≡ until_twin q t n r

      low : (r : List ℕ) → All (λ e. e.object < length r) (events_until q e n r)
      low r =
          let m = length r in
          until_all q takes m (λ e. e.object < m) e (λ s d. all_of (λ e. e.object < length s) (λ e. e.object < m) (λ x y. omega arith) (e s) (g s))
          n r (omega arith)

      seen : List Event
      seen = past [] (e (b ∷ s))

      step : On → (o : Frames X) → q (b ∷ s) ≡ o → first_twin seen (after [] o λ x r. events_until q e n r) ≡ (after none o λ x r. until_twin q t n r)
      step on (refused n r) j = refl
      step on (framed x r) j =
          let old = all_past (λ e. length r ≤ e.object) [] (e (b ∷ s)) tt (h (b ∷ s) x r j) in
          twin_fresh (length r) seen (events_until q e n r) old (low r) ∙ on r

      closes : On → (z : Bool) → first_twin [] (cond z [] (e (b ∷ s) ++ after [] (q (b ∷ s)) λ x r. events_until q e n r))
          ≡ cond z none (first_of (t (b ∷ s)) (after none (q (b ∷ s)) λ x r. until_twin q t n r))
      closes on true = refl
      closes on false =
          rw (twin_append [] (e (b ∷ s)) (after [] (q (b ∷ s)) λ x r. events_until q e n r), f (b ∷ s), step on (q (b ∷ s)) refl)
