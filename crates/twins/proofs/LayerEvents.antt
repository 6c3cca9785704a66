-- The events of a frame, if those of the frames in it are known: one layer.
use Prim.Native.Nat.{ℕ, suc, ◌≤◌, ◌<◌}
use native.Mathlib.Omega.{arith}
use mathlib.Core.Path.{◌≡◌, refl, ap, ◌∙◌}
use mathlib.Core.Bool.{Bool, true, false}
use mathlib.Core.Option.{some}
use mathlib.Core.List.{List, [], ◌∷◌, ◌++◌}
use lib.ListN.{length}
use Rattle.number.specs.BigEndian.{All}
use Rattle.format.specs.declared.Kind.{Kind}
use Rattle.format.specs.Kinds.{known}
use Rattle.format.specs.Tree.{Node}
use Rattle.format.specs.Payload.{Payload, leaf, fields, shared_fields, items, shared_items, payload}
use Rattle.format.proofs.Lists.{all_of}
use Rattle.frames.specs.declared.Refusal.{Refusal}
use Rattle.frames.specs.declared.Refusal.TheVariants.{ListEnds}
use Rattle.frames.specs.WriteList.{refused, framed, next, frame_kind, frame_name, leaf_found, until_close, frame_payload, frame}
use Rattle.frames.specs.FramePieces.{mode_of}
use Rattle.frames.proofs.FrontLaws.{never, next_got, with_name}
use Rattle.twins.specs.Lax.{LaxReader, heedless}
use Rattle.twins.specs.Events.{Event, after, own_event, EventReader, payload_events, frame_events, Falls}
use Rattle.twins.specs.Least.{frame_own}
use Rattle.twins.proofs.EventLaws.{all_append, falls_less}
use Rattle.twins.proofs.FrontTakes.{kind_elim, frames_elim, leaf_le, name_le}
use Rattle.twins.proofs.FrameEvents.{Before, At, AllAt, until_before, contents_low, contents_falls}

-- the events inside a frame
abbrev pub frame_inner : {A : Type 0} → LaxReader A → EventReader → Bool → List ℕ → List Event
frame_inner l e named [] = []
frame_inner l e named (b ∷ s) =
    after [] (frame_kind (b ∷ s) (known b) s) λ x r.
    after [] (frame_name (b ∷ s) (mode_of named []) r) λ n q.
    payload_events l e (payload x) q

pub at_nothing : {A : Type 0} (named : Bool) (k : ℕ) (s : List ℕ) (n : Refusal) (r : List ℕ) → At {A = A} named k s (refused n r) [] [] []
at_nothing named k s n r =
    record { shape = refl; own = tt; low = tt; falls = tt; takes = λ x r h. never h; read = λ x r h. never h; before = λ x r h c. never h }

module _ {A : Type 0} {l : LaxReader A} {e : EventReader} {o : ℕ → List ℕ → List Event} {i : Bool → List ℕ → List Event} (g : AllAt l e o i) where
  -- ---- a payload
  payload_low : (y : Payload) (s : List ℕ) → All (λ e. e.object ≤ length s) (payload_events l e y s)
  payload_low (leaf q) s = tt
  payload_low fields s = contents_low g true s
  payload_low shared_fields s = tt
  payload_low items s = contents_low g false s
  payload_low shared_items s = tt

  payload_falls : (y : Payload) (s : List ℕ) → Falls (suc (length s)) (payload_events l e y s)
  payload_falls (leaf q) s = tt
  payload_falls fields s = contents_falls g true s
  payload_falls shared_fields s = tt
  payload_falls items s = contents_falls g false s
  payload_falls shared_items s = tt

  payload_before : (x : Kind) (y : Payload) → payload x ≡ y → (f s : List ℕ) (v : Node A) (r : List ℕ) → frame_payload (heedless l) f y s ≡ framed v r
      → All (Before (length r)) (payload_events l e y s) × (length r ≤ length s)
  payload_before x (leaf q) j f s v r h = next_got (leaf_found f (q s)) _ h λ w u j₁ j₂.
      let z : u ≡ r = cc in (tt, omega (arith, leaf_le x q j f s j₁, ap length z))
  payload_before x fields j f s v r h = next_got (until_close (λ u. l true) (length s) [] s) _ h λ xs u j₁ j₂.
      let z : u ≡ r = cc in until_before g true (length s) (length s) [] s xs r (omega arith) (j₁ ∙ ap (framed xs) z)
  payload_before x shared_fields j f s v r h = never h
  payload_before x items j f s v r h = next_got (until_close (λ u. l false) (length s) [] s) _ h λ xs u j₁ j₂.
      let z : u ≡ r = cc in until_before g false (length s) (length s) [] s xs r (omega arith) (j₁ ∙ ap (framed xs) z)
  payload_before x shared_items j f s v r h = never h

  -- ---- a frame
  own_all : (named : Bool) (k : ℕ) (f n : List ℕ) → All (λ e. e.object ≡ k) (own_event named k f n)
  own_all true k f n = (refl, tt)
  own_all false k f n = tt

  own_before : (named : Bool) (k : ℕ) (f n r : List ℕ) → length r < length f → length f ≤ k → All (Before (length r)) (own_event named k f n)
  own_before true k f n r c d = ((omega arith, omega arith), tt)
  own_before false k f n r c d = tt

  -- behind its name
  at_payload : (named : Bool) (k : ℕ) (f n q : List ℕ) (x : Kind) → length q < length f
      → At named k f (with_name n (frame_payload (heedless l) f (payload x) q)) (own_event named k f n ++ payload_events l e (payload x) q)
      (own_event named k f n) (payload_events l e (payload x) q)
  at_payload named k f n q x c = record {
    shape = refl;
    own = own_all named k f n;
    low = all_of (λ e. e.object ≤ length q) (λ e. e.object < length f) (λ e z. omega arith) es (payload_low (payload x) q);
    falls = fall named;
    takes = λ y r h. next_got (frame_payload (heedless l) f (payload x) q) _ h λ v u j j₁.
        let z : u ≡ r = cc in omega (arith, (payload_before x (payload x) refl f q v u j).1, ap length z);
    read = λ y r h. next_got (frame_payload (heedless l) f (payload x) q) _ h λ v u j j₁. let z : n ≡ y.0 = cc in ap (own_event named k f) z;
    before = λ y r h d. next_got (frame_payload (heedless l) f (payload x) q) _ h λ v u j j₁.
        let z : u ≡ r = cc in
        let m = payload_before x (payload x) refl f q v r (j ∙ ap (framed v) z) in
        let w = m.1 in
        all_append (Before (length r)) (own_event named k f n) es (own_before named k f n r (omega arith) d) m.0;
  }
    where
      es : List Event
      es = payload_events l e (payload x) q

      fall : (named : Bool) → Falls (suc (length f)) (own_event named k f n ++ es)
      fall true = (omega arith, falls_less (suc (length q)) (length f) es (omega arith) (payload_falls (payload x) q))
      fall false = falls_less (suc (length q)) (suc (length f)) es (omega arith) (payload_falls (payload x) q)

  pub frame_at : AllAt (λ named s. frame (heedless l) (mode_of named []) s) (frame_events l e) frame_own (frame_inner l e)
  frame_at true k [] = at_nothing true k [] ListEnds []
  frame_at false k [] = at_nothing false k [] ListEnds []
  frame_at true k (b ∷ s) =
      kind_elim f s (known b)
      (λ y. At true k f (next y λ x r. next (frame_name f (some []) r) λ n q. with_name n (frame_payload (heedless l) f (payload x) q))
      (after [] y λ x r. after [] (frame_name f (some []) r) λ n q. own_event true k f n ++ payload_events l e (payload x) q)
      (after [] y λ x r. after [] (frame_name f (some []) r) λ n q. own_event true k f n)
      (after [] y λ x r. after [] (frame_name f (some []) r) λ n q. payload_events l e (payload x) q))
      (λ n r. at_nothing true k f n r)
      λ x. frames_elim (frame_name f (some []) s)
      (λ y. At true k f (next y λ n q. with_name n (frame_payload (heedless l) f (payload x) q))
      (after [] y λ n q. own_event true k f n ++ payload_events l e (payload x) q)
      (after [] y λ n q. own_event true k f n)
      (after [] y λ n q. payload_events l e (payload x) q))
      (λ n r. at_nothing true k f n r)
      λ n q j. at_payload true k f n q x (let z = name_le f true s j in omega arith)
    where
      f : List ℕ
      f = b ∷ s
  frame_at false k (b ∷ s) =
      kind_elim f s (known b)
      (λ y. At false k f (next y λ x r. with_name [] (frame_payload (heedless l) f (payload x) r))
      (after [] y λ x r. payload_events l e (payload x) r) [] (after [] y λ x r. payload_events l e (payload x) r))
      (λ n r. at_nothing false k f n r)
      λ x. at_payload false k f [] s x (omega arith)
    where
      f : List ℕ
      f = b ∷ s
