-- The frames of an object, as its reader meets them: those that were read one after another, and then those from there on.
use Rattle.std.specs.Prelude.{Option, None, Some}
use Rattle.format.specs.declared.Kind.{Kind}
use Prim.Native.Nat.{ℕ, zero, suc, ◌≤◌, ◌<◌}
use native.Mathlib.Omega.{arith}
use mathlib.Core.Path.{◌≡◌, refl, ap, ◌∙◌}
use mathlib.Core.Bool.{Bool, true, false, cond}
use mathlib.Core.Option.{none, some}
use mathlib.Core.List.{List, [], ◌∷◌, ◌++◌, append_assoc}
use lib.ListN.{length}
use lib.Dec.{eqb}
use borrow.Author.Tests.{eqb-true}
use Rattle.number.proofs.Clash.{clash}
use Rattle.format.specs.declared.Flaw.{Flaw}
use Rattle.format.specs.Kinds.{known}
use Rattle.format.specs.Parse.{got}
use Rattle.format.specs.Payload.{payload}
use Rattle.format.specs.Tree.{Tree}
use Rattle.frames.specs.declared.Refusal.{Refusal}
use Rattle.frames.specs.FramePieces.{writable}
use Rattle.frames.specs.WriteList.{Frames, refused, framed, next, frame_name, frame_payload, read_frames}
use Rattle.frames.proofs.FrontLaws.{never, next_got, with_name, kind_by, kind_is}
use Rattle.twins.specs.Events.{after}
use Rattle.twins.specs.Own.{own_name, with_frame, own_until, own_frames}
use Rattle.passing.specs.FrameNames.{name_of}
use Rattle.passing.proofs.PassLaws.{pass_less}
use Rattle.passing.proofs.PassRead.{pass_read, own_name_law, read_name_law}
use Rattle.passing.proofs.NamesLaws.{no_name}
use Rattle.passing.proofs.OwnWalked.{Over, begun, onto}

-- ---- one frame

read_less : (d : ℕ) (s : List ℕ) (x : List ℕ × Tree d) (r : List ℕ) → read_frames d (some []) s ≡ framed x r → length r < length s
read_less d s x r h = pass_less d true s r (pass_read d (some []) s x r h)

-- the name of a frame that was read is its name
own_read : (d : ℕ) (s : List ℕ) (x : List ℕ × Tree d) (r : List ℕ) → read_frames d (some []) s ≡ framed x r → own_name d s ≡ some x.0
unfolding read_frames own_name
own_read zero s x r h = never h
own_read (suc d) [] x r h = never h
own_read (suc d) (b ∷ s) x r h = rw (kind_is b (b ∷ s) s) (go (writable b) (rw (kind_is b (b ∷ s) s) at h))
  where
    go : (o : Option Kind)
        → (next (kind_by (b ∷ s) o s) λ k r. next (frame_name (b ∷ s) (some []) r) λ n q. with_name n (frame_payload (read_frames d) (b ∷ s) (payload k) q))
        ≡ framed x r
        → (after none (kind_by (b ∷ s) o s) λ k r. after none (frame_name (b ∷ s) (some []) r) λ n q. some n) ≡ some x.0
    go None h = never h
    go (Some k) h = next_got (frame_name (b ∷ s) (some []) s) _ h λ m q e j. next_got (frame_payload (read_frames d) (b ∷ s) (payload k) q) _ j λ t u i l.
        let z : x ≡ (m, t) = cc in
        rw (e, z)

-- a frame with a name is no close
no_close : (d b : ℕ) (s : List ℕ) {n : List ℕ} {fs : List Flaw} {q : List ℕ} → name_of d (b ∷ s) ≡ got n fs q → eqb b 0 ≡ false
unfolding name_of writable known
no_close zero b s h = clash cc
no_close (suc d) b s {n} {fs} {q} h = go (eqb b 0) refl
  where
    go : (t : Bool) → eqb b 0 ≡ t → t ≡ false
    go true e = let z : name_of (suc d) (0 ∷ s) ≡ got n fs q = rw (eqb-true b 0 e) at h in clash cc
    go false e = refl

-- ---- no bound on how many matters once it is the length

after_same : {A B : Type 0} (z : B) (o : Frames A) (f g : A → List ℕ → B) → ((x : A) (r : List ℕ) → o ≡ framed x r → f x r ≡ g x r) → after z o f ≡ after z o g
after_same z (refused n r) f g e = refl
after_same z (framed x r) f g e = e x r refl

own_bound : (d n m : ℕ) (s : List ℕ) → length s ≤ n → length s ≤ m
    → own_until (read_frames d (some [])) (own_name d) n s ≡ own_until (read_frames d (some [])) (own_name d) m s
unfolding own_until
own_bound d zero zero s a b = refl
own_bound d zero (suc m) [] a b = refl
own_bound d zero (suc m) (c ∷ s) a b = absurd (omega arith)
own_bound d (suc n) zero [] a b = refl
own_bound d (suc n) zero (c ∷ s) a b = absurd (omega arith)
own_bound d (suc n) (suc m) [] a b = refl
own_bound d (suc n) (suc m) (c ∷ s) a b = ap (λ xs. cond (eqb c 0) [] (with_frame (c ∷ s) (own_name d (c ∷ s)) xs))
    (after_same [] (read_frames d (some []) (c ∷ s)) _ _ λ x r e. let l = read_less d (c ∷ s) x r e in own_bound d n m r (omega arith) (omega arith))

-- ---- the first frame

pub own_step : (d : ℕ) (s : List ℕ) (x : List ℕ × Tree d) (r : List ℕ) → read_frames d (some []) s ≡ framed x r → own_frames d s ≡ (s, x.0) ∷ own_frames d r
unfolding own_until
own_step d [] x r h = no_name d (read_name_law d [] [] x r h).1.1
own_step d (b ∷ s) x r h =
    let n = no_close d b s (read_name_law d [] (b ∷ s) x r h).1.1 in
    let l = read_less d (b ∷ s) x r h in
    rw (n, own_read d (b ∷ s) x r h, h) (ap (λ xs. (b ∷ s, x.0) ∷ xs) (own_bound d (length s) (length r) r (omega arith) (omega arith)))

-- it is refused: it is the last, if its name is right
pub own_last : (d : ℕ) (s n : List ℕ) (k : Refusal) (f : List ℕ) → read_frames d (some []) s ≡ refused k f → own_name d s ≡ some n → own_frames d s ≡ (s, n) ∷ []
unfolding own_until
own_last d [] n k f h i = no_name d (own_name_law d [] n i).1.1
own_last d (b ∷ s) n k f h i = rw (no_close d b s (own_name_law d (b ∷ s) n i).1.1, i, h)

pub own_none : (d : ℕ) (s : List ℕ) (k : Refusal) (f : List ℕ) → read_frames d (some []) s ≡ refused k f → own_name d s ≡ none → own_frames d s ≡ []
unfolding own_until
own_none d [] k f h i = refl
own_none d (b ∷ s) k f h i = rw (i, h) (go (eqb b 0))
  where
    go : (t : Bool) → ◌≡◌ {A = List (List ℕ × List ℕ)} (cond t [] []) []
    go true = refl
    go false = refl

-- ---- frames that were read one after another, and those from there on

pub over_frames : (d : ℕ) (s : List ℕ) {fs : List (List ℕ × List ℕ)} {r : List ℕ} → Over d s fs r → own_frames d s ≡ fs ++ own_frames d r
over_frames d s begun = refl
over_frames d s (onto {fs} {q} {x} {r} o e) =
    rw (append_assoc fs ((q, x.0) ∷ []) (own_frames d r)) (over_frames d s o ∙ ap (λ xs. fs ++ xs) (own_step d q x r e))
