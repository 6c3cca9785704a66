-- An object is read strictly as its frames are read whatever names it has so far, and then the first of them whose name it has already.
use Prim.Native.Nat.{ℕ, zero, suc}
use mathlib.Core.Path.{◌≡◌, refl, sym, ap, ◌∙◌}
use mathlib.Core.Bool.{Bool, true, false, cond}
use mathlib.Core.Option.{Option, none, some}
use mathlib.Core.List.{List, [], ◌∷◌}
use lib.ListN.{length}
use lib.Dec.{eqb}
use Rattle.text.specs.Equal.{equal}
use Rattle.format.specs.declared.Kind.{Kind}
use Rattle.format.specs.declared.Flaw.TheVariants.{Blank, Long, NotUtf8}
use Rattle.format.specs.Kinds.{known, any}
use Rattle.format.specs.Mask.{has}
use Rattle.format.specs.Names.{read_name}
use Rattle.format.specs.Parse.{Out, fault, got}
use Rattle.format.specs.Payload.{payload}
use Rattle.format.specs.Tree.{Node, Tree}
use Rattle.frames.specs.declared.Refusal.TheVariants.{BadFrame, EmptyName, NameUsed, NotText}
use Rattle.frames.specs.WriteList.{Frames, refused, framed, next, name_found, frame_name, FrameReader, frame_payload, frame, read_frames}
use Rattle.frames.specs.FramePieces.{contents_by}
use Rattle.number.proofs.Clash.{clash}
use Rattle.frames.proofs.FrontLaws.{never, with_name}
use Rattle.twins.specs.Events.{after, decide}
use Rattle.twins.specs.Own.{frame_named, own_name, with_frame, own_until, own_frames, first_used, freely}
use Rattle.twins.proofs.EventLaws.{decide_next}
use Rattle.twins.proofs.FrontTakes.{kind_elim}

-- ---- one frame

-- refusal 4 of a frame f with this name, in an object that has the names `used`
abbrev pub used_at : List ℕ → Option (List ℕ) → List (List ℕ) → Option (List ℕ)
used_at f none used = none
used_at f (some n) used = cond (any (equal n) used) (some f) none

module _ {A : Type 0} (p : FrameReader A) (used : List (List ℕ)) where
  named_own : (x : Kind) (f s : List ℕ)
      → next (frame_name f (some used) s) (λ n q. with_name n (frame_payload p f (payload x) q))
      ≡ decide (used_at f (after none (frame_name f (some []) s) λ n q. some n) used) (next (frame_name f (some []) s) λ n q. with_name n
      (frame_payload p f (payload x) q))
  named_own x f s = go (read_name s)
    where
      on : List ℕ → List ℕ → Frames (List ℕ × Node A)
      on n q = with_name n (frame_payload p f (payload x) q)

      Goal : Frames (List ℕ) → Frames (List ℕ) → Type 0
      Goal y z = next y on ≡ decide (used_at f (after none z λ n q. some n) used) (next z on)

      to : Frames (List ℕ) → (u v w : Bool) → Frames (List ℕ)
      to y u v w = cond u (refused BadFrame f) (cond v (refused EmptyName f) (cond w (refused NotText f) y))

      met : (n q : List ℕ) (b : Bool) → next (cond b (refused NameUsed f) (framed n q)) on ≡ decide (cond b (some f) none) (on n q)
      met n q true = refl
      met n q false = refl

      at : (n q : List ℕ) (u v w : Bool) → Goal (to (cond (any (equal n) used) (refused NameUsed f) (framed n q)) u v w) (to (framed n q) u v w)
      at n q true v w = refl
      at n q false true w = refl
      at n q false false true = refl
      at n q false false false = met n q (any (equal n) used)

      go : (y : Out (List ℕ)) → Goal (name_found f used y) (name_found f [] y)
      go (fault n) = refl
      go (got n fs q) = at n q (has Long fs) (has Blank fs) (has NotUtf8 fs)

  frame_own_law : (s : List ℕ) → frame p (some used) s ≡ decide (used_at s (frame_named s) used) (frame p (some []) s)
  frame_own_law [] = refl
  frame_own_law (b ∷ s) =
      kind_elim (b ∷ s) s (known b)
      (λ y. (next y λ x r. next (frame_name (b ∷ s) (some used) r) λ n q. with_name n (frame_payload p (b ∷ s) (payload x) q))
      ≡ decide (used_at (b ∷ s) (after none y λ x r. after none (frame_name (b ∷ s) (some []) r) λ n q. some n) used)
      (next y λ x r. next (frame_name (b ∷ s) (some []) r) λ n q. with_name n (frame_payload p (b ∷ s) (payload x) q)))
      (λ n r. refl)
      λ x. named_own x (b ∷ s) s

pub frames_own : (d : ℕ) (used : List (List ℕ)) (s : List ℕ) → read_frames d (some used) s ≡ decide (used_at s (own_name d s) used) (read_frames d (some []) s)
unfolding read_frames own_name
frames_own zero used s = refl
frames_own (suc d) used s = frame_own_law (read_frames d) used s

-- the name of a frame that was read is its name
named_read : {A : Type 0} (p : FrameReader A) (s : List ℕ) (x : List ℕ × Node A) (r : List ℕ) → frame p (some []) s ≡ framed x r → frame_named s ≡ some x.0
named_read p [] x r h = never h
named_read {A} p (b ∷ s) x r h =
    kind_elim (b ∷ s) s (known b)
    (λ y. (next y λ k r'. next (frame_name (b ∷ s) (some []) r') λ n q. with_name n (frame_payload p (b ∷ s) (payload k) q)) ≡ framed x r
    → (after none y λ k r'. after none (frame_name (b ∷ s) (some []) r') λ n q. some n) ≡ some x.0)
    (λ n r' h. never h)
    (λ k h. behind k (frame_name (b ∷ s) (some []) s) h) h
  where
    last : (n : List ℕ) (o : Frames (Node A)) → with_name n o ≡ framed x r → n ≡ x.0
    last n (refused m q) h = never h
    last n (framed t q) h = let z : x ≡ (n, t) = cc in sym (ap (λ y. y.0) z)

    behind : (k : Kind) (o : Frames (List ℕ)) → (next o λ n q. with_name n (frame_payload p (b ∷ s) (payload k) q)) ≡ framed x r →
        (after none o λ n q. some n) ≡ some x.0
    behind k (refused m q) h = never h
    behind k (framed n q) h = ap some (last n (frame_payload p (b ∷ s) (payload k) q) h)

own_read : (d : ℕ) (s : List ℕ) (x : List ℕ × Tree d) (r : List ℕ) → read_frames d (some []) s ≡ framed x r → own_name d s ≡ some x.0
unfolding read_frames own_name
own_read zero s x r h = never h
own_read (suc d) s x r h = named_read (read_frames d) s x r h

-- ---- the frames of an object

pub until_own : (d n : ℕ) (used : List (List ℕ)) (s : List ℕ)
    → contents_by true (read_frames d) n used s ≡ decide (first_used used (own_until (read_frames d (some [])) (own_name d) n s)) (freely d n used s)
unfolding own_until first_used
until_own d zero used s = refl
until_own d (suc n) used [] = refl
until_own d (suc n) used (b ∷ s) = closes (λ x r. until_own d n (x.0 ∷ used) r) (eqb b 0)
  where
    t : List ℕ
    t = b ∷ s

    strictly : List ℕ × Tree d → List ℕ → Frames (List (List ℕ × Tree d))
    strictly x r = next (contents_by true (read_frames d) n (x.0 ∷ used) r) λ xs q. framed (x ∷ xs) q

    loosely : List ℕ × Tree d → List ℕ → Frames (List (List ℕ × Tree d))
    loosely x r = next (freely d n (x.0 ∷ used) r) λ xs q. framed (x ∷ xs) q

    rest : Frames (List ℕ × Tree d) → List (List ℕ × List ℕ)
    rest y = after [] y λ x r. own_until (read_frames d (some [])) (own_name d) n r

    On : Type 0
    On = (x : List ℕ × Tree d) (r : List ℕ)
        → contents_by true (read_frames d) n (x.0 ∷ used) r
        ≡ decide (first_used (x.0 ∷ used) (own_until (read_frames d (some [])) (own_name d) n r)) (freely d n (x.0 ∷ used) r)

    fresh : On → (m : List ℕ) (y : Frames (List ℕ × Tree d)) → ((x : List ℕ × Tree d) (r : List ℕ) → y ≡ framed x r → m ≡ x.0)
        → next y strictly ≡ decide (first_used (m ∷ used) (rest y)) (next y loosely)
    fresh on m (refused k r) h = refl
    fresh on m (framed x r) h =
        rw (h x r refl, on x r)
        (decide_next (first_used (x.0 ∷ used) (own_until (read_frames d (some [])) (own_name d) n r)) (freely d n (x.0 ∷ used) r) λ xs q. framed (x ∷ xs) q)

    named : On → (m : List ℕ) (y : Frames (List ℕ × Tree d)) → ((x : List ℕ × Tree d) (r : List ℕ) → y ≡ framed x r → m ≡ x.0) → (w : Bool)
        → next (decide (cond w (some t) none) y) strictly ≡ decide (cond w (some t) (first_used (m ∷ used) (rest y))) (next y loosely)
    named on m y h true = refl
    named on m y h false = fresh on m y h

    same : {m n : List ℕ} → ◌≡◌ {A = Option (List ℕ)} (some m) (some n) → m ≡ n
    same h = cc

    step : On → (o : Option (List ℕ)) → own_name d t ≡ o → (y : Frames (List ℕ × Tree d)) → read_frames d (some []) t ≡ y
        → next (decide (used_at t o used) y) strictly ≡ decide (first_used used (with_frame t o (rest y))) (next y loosely)
    step on none e (refused k r) j = refl
    step on none e (framed x r) j = let z : none ≡ some x.0 = sym e ∙ own_read d t x r j in clash cc
    step on (some m) e y j = named on m y (λ x r h. same (sym e ∙ own_read d t x r (j ∙ h))) (any (equal m) used)

    closes : On → (z : Bool) → cond z (framed [] s) (next (read_frames d (some used) t) strictly)
        ≡ decide (first_used used (cond z [] (with_frame t (own_name d t) (rest (read_frames d (some []) t)))))
        (cond z (framed [] s) (next (read_frames d (some []) t) loosely))
    closes on true = refl
    closes on false = rw (frames_own d used t) (step on (own_name d t) refl (read_frames d (some []) t) refl)

pub object_own : (d : ℕ) (s : List ℕ) → contents_by true (read_frames d) (length s) [] s ≡ decide (first_used [] (own_frames d s)) (freely d (length s) [] s)
object_own d s = until_own d (length s) [] s
