-- Frames at every depth: what was read reads the same whatever stands behind it; a refusal is because the list ends, or at the first byte of a frame; and the
-- bound on the frames in a container is large enough.
use Rattle.std.specs.Prelude.{Option, None, Some}
use Prim.Native.Nat.{ℕ, zero, suc, ◌+◌, ◌≤◌}
use native.Mathlib.Omega.{arith}
use mathlib.Core.Path.{◌≡◌, refl, sym, ap, ◌∙◌}
use mathlib.Core.Logic.{◌⊎◌, inl, inr}
use mathlib.Core.Bool.{Bool, true, false, cond}
use mathlib.Core.Option.{Option as Optional}
use mathlib.Core.List.{List, [], ◌∷◌, ◌++◌, append_assoc}
use lib.ListN.{length, length-append}
use lib.Dec.{eqb}
use Rattle.format.specs.declared.Kind.{Kind}
use Rattle.frames.specs.declared.Refusal.{Refusal}
use Rattle.frames.specs.declared.Refusal.TheVariants.{ListEnds, BadFrame, TooDeep}
use Rattle.format.specs.Kinds.{known}
use Rattle.format.specs.Payload.{payload}
use Rattle.frames.specs.WriteList.{Frames, refused, framed, next, is_writable, frame_kind, frame_name, until_close, FrameReader, frame_payload, frame}
use Rattle.frames.specs.WriteList.{read_frames}
use Rattle.frames.proofs.FrontLaws.{never, next_got}
use Rattle.frames.proofs.FramesLocal.{next_refused, LocalFrames, OfFrame, Verdict, Judges, here}
use Rattle.frames.proofs.FrameParts.{carried, name_got, name_refused, payload_got, payload_refused}

-- ---- a frame

pub kind_got : (f : List ℕ) (o : Option Kind) (s : List ℕ) {k : Kind} {r : List ℕ} → frame_kind f o s ≡ framed k r
    → (s ≡ r) × ((f' q : List ℕ) → frame_kind f' o q ≡ framed k q)
kind_got f None s h = never h
kind_got f (Some j) s {k} {r} h = go (is_writable (payload j)) h
  where
    go : (b : Bool) → cond b (framed j s) (refused BadFrame f) ≡ framed k r
        → (s ≡ r) × ((f' q : List ℕ) → cond b (framed j q) (refused BadFrame f') ≡ framed k q)
    go true h = let z : j ≡ k = cc in (cc, λ f' q. rw z)
    go false h = never h

pub kind_refused : (f : List ℕ) (o : Option Kind) (s : List ℕ) (n : Refusal) (r : List ℕ) → frame_kind f o s ≡ refused n r → OfFrame n × (f ≡ r)
kind_refused f None s n r h = carried BadFrame tt h
kind_refused f (Some j) s n r h = go (is_writable (payload j)) h
  where
    go : (b : Bool) → cond b (framed j s) (refused BadFrame f) ≡ refused n r → OfFrame n × (f ≡ r)
    go true h = never (sym h)
    go false h = carried BadFrame tt h

module _ {A : Type 0} (p : FrameReader A) (loc : (names : Optional (List (List ℕ))) → LocalFrames (p names)) where
  frame_local : (names : Optional (List (List ℕ))) → LocalFrames (frame p names)
  frame_local names [] x r h = never h
  frame_local names (b ∷ s) x r h =
      next_got (frame_kind (b ∷ s) (known b) s) _ h λ k u i h₁. next_got (frame_name (b ∷ s) names u) _ h₁ λ n q j h₂.
      next_got (frame_payload p (b ∷ s) (payload k) q) _ h₂ λ t v l h₃.
      let a = kind_got (b ∷ s) (known b) s i in
      let c = name_got (b ∷ s) names u j in
      let d = payload_got p loc k (b ∷ s) (payload k) q refl l in
      let y : (n, t) ≡ x = cc in
      let z : v ≡ r = cc in (
        b ∷ (c.0 ++ d.0),
        ap (λ y. b ∷ y) (a.0 ∙ c.1 ∙ ap (λ y. c.0 ++ y) (d.1 ∙ ap (λ y. d.0 ++ y) z) ∙ sym (append_assoc c.0 d.0 r)),
        omega arith,
        λ q'. rw (
          append_assoc c.0 d.0 q',
          a.1 (b ∷ (c.0 ++ (d.0 ++ q'))) (c.0 ++ (d.0 ++ q')),
          c.2 (b ∷ (c.0 ++ (d.0 ++ q'))) (d.0 ++ q'),
          d.2 (b ∷ (c.0 ++ (d.0 ++ q'))) q',
          y,
        ),
      )

  module _ (ref : (names : Optional (List (List ℕ))) → Judges (p names)) where
    frame_judges : (names : Optional (List (List ℕ))) → Judges (frame p names)
    frame_judges names [] n r l h = absurd (omega arith)
    frame_judges names (b ∷ s) n r l h =
        next_refused (frame_kind (b ∷ s) (known b) s) _ h
        (λ e. let i = kind_refused (b ∷ s) (known b) s n r e in here (frame p names) (b ∷ s) n r i.0 l i.1)
        λ k u i h₁.
        next_refused (frame_name (b ∷ s) names u) _ h₁ (λ e. let i = name_refused (b ∷ s) names u n r e in here (frame p names) (b ∷ s) n r i.0 l i.1)
        λ m q j h₂. next_refused (frame_payload p (b ∷ s) (payload k) q) _ h₂ (λ e. at k u i m q j (payload_refused p loc k ref (b ∷ s) (payload k) q n r e))
        (λ t v e h₃. never (sym h₃))
      where
        at : (k : Kind) (u : List ℕ) → frame_kind (b ∷ s) (known b) s ≡ framed k u → (m q : List ℕ) → frame_name (b ∷ s) names u ≡ framed m q
            → (OfFrame n × (b ∷ s ≡ r)) ⊎ (((n ≡ ListEnds) × (r ≡ []))
            ⊎ (OfFrame n × ((w : List ℕ) × (q ≡ w ++ r) × (1 ≤ length r) × ((f' : List ℕ) → frame_payload p f' (payload k) w ≡ refused ListEnds []))))
            → Verdict (frame p names) (b ∷ s) n r
        at k u i m q j (inl e) = here (frame p names) (b ∷ s) n r e.0 l e.1
        at k u i m q j (inr (inl e)) = inl e
        at k u i m q j (inr (inr e)) =
            let a = kind_got (b ∷ s) (known b) s i in
            let c = name_got (b ∷ s) names u j in
            let w = e.1.0 in
            inr (record {
              of_frame = e.0;
              before = b ∷ (c.0 ++ w);
              splits = ap (λ y. b ∷ y) (a.0 ∙ c.1 ∙ ap (λ y. c.0 ++ y) e.1.1 ∙ sym (append_assoc c.0 w r));
              some_left = e.1.2;
              ends = λ _. rw (a.1 (b ∷ (c.0 ++ w)) (c.0 ++ w), c.2 (b ∷ (c.0 ++ w)) w, e.1.3 (b ∷ (c.0 ++ w)));
            })

pub frames_local : (d : ℕ) (names : Optional (List (List ℕ))) → LocalFrames (read_frames d names)
unfolding read_frames
frames_local zero names s x r h = never h
frames_local (suc d) names s x r h = frame_local (read_frames d) (frames_local d) names s x r h

pub frames_judge : (d : ℕ) (names : Optional (List (List ℕ))) → Judges (read_frames d names)
unfolding read_frames
frames_judge zero names s n r l h = let c = carried TooDeep tt h in here (read_frames zero names) s n r c.0 l c.1
frames_judge (suc d) names s n r l h = frame_judges (read_frames d) (frames_local d) (frames_judge d) names s n r l h

-- ---- the bound on the frames in a container is large enough

until_more : {A : Type 0} (p : List (List ℕ) → List ℕ → Frames (List ℕ × A)) → ((used : List (List ℕ)) → LocalFrames (p used))
    → (m n : ℕ) (used : List (List ℕ)) (s : List ℕ) → length s ≤ m → length s ≤ n → until_close p n used s ≡ until_close p m used s
until_more p loc zero zero used s h k = refl
until_more p loc zero (suc n) used [] h k = refl
until_more p loc zero (suc n) used (b ∷ s) h k = absurd (omega arith)
until_more p loc (suc m) zero used [] h k = refl
until_more p loc (suc m) zero used (b ∷ s) h k = absurd (omega arith)
until_more p loc (suc m) (suc n) used [] h k = refl
until_more {A} p loc (suc m) (suc n) used (b ∷ s) h k = ap (λ o. cond (eqb b 0) (framed [] s) o) (go (p used (b ∷ s)) refl (until_more p loc m n))
  where
    go : (o : Frames (List ℕ × A)) → p used (b ∷ s) ≡ o
        → ((used : List (List ℕ)) (s : List ℕ) → length s ≤ m → length s ≤ n → until_close p n used s ≡ until_close p m used s)
        → next o (λ x r. next (until_close p n (x.0 ∷ used) r) λ xs q. framed (x ∷ xs) q)
        ≡ next o (λ x r. next (until_close p m (x.0 ∷ used) r) λ xs q. framed (x ∷ xs) q)
    go (refused j r) e ih = refl
    go (framed x r) e ih =
        let w = loc used (b ∷ s) x r e in
        let l : suc (length s) ≡ length w.0 + length r = ap length w.1 ∙ length-append w.0 r in
        ap (λ o. next o λ xs q. framed (x ∷ xs) q) (ih (x.0 ∷ used) r (omega (arith, w.2)) (omega (arith, w.2)))

-- with the names before a frame in an object, and with none in an array
pub frames_enough : (d : ℕ) (names : List (List ℕ) → Optional (List (List ℕ))) (n : ℕ) (used : List (List ℕ)) (s : List ℕ) → length s ≤ n
    → until_close (λ u. read_frames d (names u)) n used s ≡ until_close (λ u. read_frames d (names u)) (length s) used s
frames_enough d names n used s h = until_more (λ u. read_frames d (names u)) (λ u. frames_local d (names u)) (length s) n used s (omega arith) h
