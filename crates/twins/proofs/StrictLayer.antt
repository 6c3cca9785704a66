-- A frame: the strict reader stops at the first twin, and goes with the lax one until then, if it does so in the frames inside. One layer.
use Prim.Native.Nat.{ℕ, suc, ◌≤◌}
use native.Mathlib.Omega.{arith}
use mathlib.Core.Path.{◌≡◌, refl, ap, ◌∙◌}
use mathlib.Core.Bool.{Bool, true, false, cond}
use mathlib.Core.Option.{some}
use mathlib.Core.List.{List, [], ◌∷◌, ◌++◌, map}
use lib.ListN.{length}
use Rattle.text.specs.Equal.{equal}
use Rattle.format.specs.declared.Kind.{Kind}
use Rattle.format.specs.declared.Flaw.TheVariants.{Blank, Long, NotUtf8}
use Rattle.format.specs.Kinds.{known, any}
use Rattle.format.specs.Parse.{Out, fault, got}
use Rattle.format.specs.Names.{read_name}
use Rattle.format.specs.Mask.{has}
use Rattle.format.specs.Tree.{Node, array, object}
use Rattle.format.specs.Payload.{Payload, leaf, fields, shared_fields, items, shared_items, payload}
use Rattle.frames.specs.declared.Refusal.TheVariants.{BadFrame, EmptyName, NameUsed, NotText}
use Rattle.frames.specs.WriteList.{Frames, refused, framed, next, name_found, frame_name, FrameReader, frame_payload, frame}
use Rattle.frames.specs.FramePieces.{mode_of}
use Rattle.frames.proofs.FrontLaws.{with_name}
use Rattle.twins.specs.Lax.{LaxReader, heedless}
use Rattle.twins.specs.Events.{Event, after, own_event, EventReader, payload_events, frame_events, is_of, first_twin, decide}
use Rattle.twins.proofs.EventLaws.{decide_next}
use Rattle.twins.proofs.FrontTakes.{kind_elim, read_le}
use Rattle.twins.proofs.FrameEvents.{AllAt}
use Rattle.twins.proofs.Seen.{Agree, Above, above_less}
use Rattle.twins.proofs.StrictUntil.{Follows, contents_strict}

module _ {A : Type 0} (p : FrameReader A) {l : LaxReader A} {e : EventReader} {o : ℕ → List ℕ → List Event} {i : Bool → List ℕ → List Event}
    (g : AllAt l e o i) (h : Follows p l e) where
  payload_strict : (y : Payload) (f : List ℕ) (seen : List Event) (s : List ℕ) → Above (suc (length s)) seen
      → frame_payload p f y s ≡ decide (first_twin seen (payload_events l e y s)) (frame_payload (heedless l) f y s)
  unfolding first_twin
  payload_strict (leaf q) f seen s a = refl
  payload_strict fields f seen s a =
      ap (λ o. next o λ xs r. framed (object xs) r) (contents_strict p g h true seen s a) ∙ decide_next (first_twin seen (payload_events l e fields s)) _ _
  payload_strict shared_fields f seen s a = refl
  payload_strict items f seen s a =
      ap (λ o. next o λ xs r. framed (array (map (λ x. x.1) xs)) r) (contents_strict p g h false seen s a)
      ∙ decide_next (first_twin seen (payload_events l e items s)) _ _
  payload_strict shared_items f seen s a = refl

  -- behind the kind
  module _ (x : Kind) (k : ℕ) (used : List (List ℕ)) (seen : List Event) (f s : List ℕ) where
    abbrev strictly : List ℕ → List ℕ → Frames (List ℕ × Node A)
    strictly n q = with_name n (frame_payload p f (payload x) q)

    abbrev freely : List ℕ → List ℕ → Frames (List ℕ × Node A)
    freely n q = with_name n (frame_payload (heedless l) f (payload x) q)

    abbrev inside : List ℕ → List Event
    inside q = payload_events l e (payload x) q

    -- behind a name that is text, and was met before or not
    found_strict : (n q : List ℕ) → length q ≤ length s → Above (suc (length s)) seen → suc (length s) ≤ k → (w : Bool) → any (is_of k n) seen ≡ w
        → next (cond w (refused NameUsed f) (framed n q)) strictly
        ≡ decide (cond w (some f) (first_twin (record { object = k; from = f; name = n } ∷ seen) (inside q))) (freely n q)
    found_strict n q j b c true m = refl
    found_strict n q j b c false m =
        let own : Event = record { object = k; from = f; name = n } in
        let z : Above (suc (length q)) (own ∷ seen) = (omega arith, above_less (suc (length s)) (suc (length q)) seen (omega arith) b) in
        ap (with_name n) (payload_strict (payload x) f (own ∷ seen) q z) ∙ decide_next (first_twin (own ∷ seen) (inside q)) _ _

    named_strict : (named : Bool) → Agree named k used seen → Above (suc (length s)) seen → suc (length s) ≤ k
        → next (frame_name f (mode_of named used) s) strictly
        ≡ decide (first_twin seen (after [] (frame_name f (mode_of named []) s) λ n q. own_event named k f n ++ inside q))
        (next (frame_name f (mode_of named []) s) freely)
    unfolding first_twin
    named_strict false a b c = ap (with_name []) (payload_strict (payload x) f seen s b) ∙ decide_next (first_twin seen (inside s)) _ _
    named_strict true a b c = go (read_name s) refl
      where
        Goal : Frames (List ℕ) → Frames (List ℕ) → Type 0
        Goal y z = next y strictly ≡ decide (first_twin seen (after [] z λ n q. own_event true k f n ++ inside q)) (next z freely)

        go : (y : Out (List ℕ)) → read_name s ≡ y → Goal (name_found f used y) (name_found f [] y)
        go (fault n) j = refl
        go (got n fs q) j = at (has Long fs) (has Blank fs) (has NotUtf8 fs)
          where
            to : Frames (List ℕ) → (u v w : Bool) → Frames (List ℕ)
            to y u v w = cond u (refused BadFrame f) (cond v (refused EmptyName f) (cond w (refused NotText f) y))

            at : (u v w : Bool) → Goal (to (cond (any (equal n) used) (refused NameUsed f) (framed n q)) u v w) (to (framed n q) u v w)
            at true v w = refl
            at false true w = refl
            at false false true = refl
            at false false false = rw (← a n) (found_strict n q (read_le s j) b c (any (is_of k n) seen) refl)

  pub frame_strict : Follows (frame p) (λ named s. frame (heedless l) (mode_of named []) s) (frame_events l e)
  unfolding first_twin
  frame_strict named k used seen [] a b c = refl
  frame_strict named k used seen (b₀ ∷ s) a b c =
      kind_elim f s (known b₀)
      (λ y. (next y λ x r. next (frame_name f (mode_of named used) r) λ n q. with_name n (frame_payload p f (payload x) q))
      ≡ decide (first_twin seen (after [] y λ x r. after [] (frame_name f (mode_of named []) r) λ n q. own_event named k f n ++ payload_events l e (payload x) q))
      (next y λ x r. next (frame_name f (mode_of named []) r) λ n q. with_name n (frame_payload (heedless l) f (payload x) q)))
      (λ n r. refl)
      λ x. named_strict x k used seen f s named a b c
    where
      f : List ℕ
      f = b₀ ∷ s
