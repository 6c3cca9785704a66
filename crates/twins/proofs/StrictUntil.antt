-- Frames up to a close: the strict reader stops at the first twin, and goes with the lax one until then.
use Prim.Native.Nat.{ℕ, zero, suc, ◌≤◌}
use native.Mathlib.Omega.{arith}
use mathlib.Core.Path.{◌≡◌, refl}
use mathlib.Core.Bool.{Bool, true, false, cond}
use mathlib.Core.Option.{Option, none, some}
use mathlib.Core.List.{List, [], ◌∷◌, ◌++◌}
use lib.ListN.{length}
use lib.Dec.{eqb}
use Rattle.frames.specs.WriteList.{Frames, refused, framed, next, until_close, FrameReader}
use Rattle.frames.specs.FramePieces.{mode_of, contents_by}
use Rattle.twins.specs.Lax.{LaxReader}
use Rattle.twins.specs.Events.{Event, after, events_until, EventReader, first_twin, past, decide}
use Rattle.twins.specs.Least.{first_of}
use Rattle.twins.proofs.EventLaws.{twin_append, decide_next}
use Rattle.twins.proofs.FrameEvents.{AllAt}
use Rattle.twins.proofs.Seen.{Agree, Above, above_less, fresh, agree_on, above_on}

-- of each frame: `p` reads strictly, `l` does not, and `e` gives the events of l
abbrev pub Follows : {A : Type 0} → FrameReader A → LaxReader A → EventReader → Type 0
Follows p l e = (named : Bool) (k : ℕ) (used : List (List ℕ)) (seen : List Event) (s : List ℕ) → Agree named k used seen → Above (length s) seen → length s ≤ k
    → p (mode_of named used) s ≡ decide (first_twin seen (e named k s)) (l named s)

module _ {A : Type 0} (p : FrameReader A) {l : LaxReader A} {e : EventReader} {o : ℕ → List ℕ → List Event} {i : Bool → List ℕ → List Event}
    (g : AllAt l e o i) (f : Follows p l e) where
  until_strict : (named : Bool) (k n : ℕ) (used free : List (List ℕ)) (seen : List Event) (s : List ℕ)
      → Agree named k used seen → Above (length s) seen → length s ≤ k
      → contents_by named p n used s ≡ decide (first_twin seen (events_until (l named) (e named k) n s)) (until_close (λ u. l named) n free s)
  unfolding first_twin
  until_strict named k zero used free seen s a b c = refl
  until_strict named k (suc n) used free seen [] a b c = refl
  until_strict named k (suc n) used free seen (x₀ ∷ s) a b c =
      closes (λ x r j. let h = g named k (x₀ ∷ s) in let y = h.takes x r j in
      until_strict named k n (x.0 ∷ used) (x.0 ∷ free) (past seen (e named k (x₀ ∷ s))) r
      (agree_on k seen (x₀ ∷ s) x r named used a c h j) (above_on k seen (x₀ ∷ s) x r named b c h j) (omega arith)) (eqb x₀ 0)
    where
      t : List ℕ
      t = x₀ ∷ s

      es : List ℕ → List Event
      es r = events_until (l named) (e named k) n r

      met : List Event
      met = past seen (e named k t)

      -- the frames that follow, read strictly and not
      strictly : List ℕ × A → List ℕ → Frames (List (List ℕ × A))
      strictly x r = next (contents_by named p n (x.0 ∷ used) r) λ xs q. framed (x ∷ xs) q

      freely : List ℕ × A → List ℕ → Frames (List (List ℕ × A))
      freely x r = next (until_close (λ u. l named) n (x.0 ∷ free) r) λ xs q. framed (x ∷ xs) q

      On : Type 0
      On = (x : List ℕ × A) (r : List ℕ) → l named t ≡ framed x r
          → contents_by named p n (x.0 ∷ used) r ≡ decide (first_twin met (es r)) (until_close (λ u. l named) n (x.0 ∷ free) r)

      step : On → (w : Option (List ℕ)) (y : Frames (List ℕ × A)) → l named t ≡ y
          → next (decide w y) strictly ≡ decide (first_of w (first_twin met (after [] y λ x r. es r))) (next y freely)
      step on (some f) y j = refl
      step on none (refused m r) j = refl
      step on none (framed x r) j =
          rw (on x r j) (decide_next (first_twin met (es r)) (until_close (λ u. l named) n (x.0 ∷ free) r) λ xs q. framed (x ∷ xs) q)

      closes : On → (z : Bool) → cond z (framed [] s) (next (p (mode_of named used) t) strictly)
          ≡ decide (first_twin seen (cond z [] (e named k t ++ after [] (l named t) λ x r. es r))) (cond z (framed [] s) (next (l named t) freely))
      closes on true = refl
      closes on false = rw (f named k used seen t a b c, twin_append seen (e named k t) (after [] (l named t) λ x r. es r))
          (step on (first_twin seen (e named k t)) (l named t) refl)

  -- an object or an array whose fields begin at s
  pub contents_strict : (named : Bool) (seen : List Event) (s : List ℕ) → Above (suc (length s)) seen
      → contents_by named p (length s) [] s
      ≡ decide (first_twin seen (events_until (l named) (e named (length s)) (length s) s)) (until_close (λ u. l named) (length s) [] s)
  contents_strict named seen s a =
      until_strict named (length s) (length s) [] [] seen s (agree named) (above_less (suc (length s)) (length s) seen (omega arith) a) (omega arith)
    where
      agree : (b : Bool) → Agree b (length s) [] seen
      agree true = λ n. fresh (length s) n seen a
      agree false = tt
