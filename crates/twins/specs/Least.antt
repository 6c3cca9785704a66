-- The first twin by structure, as code finds it: at each object the earlier of the first among its direct frames and the first inside them.
use Rattle.std.specs.Prelude.{ℕ, zero, suc, Bool, true, false, cond, List, [], ◌∷◌, length, eqb, ltb}
use Rattle.std.proofs.Math.Option.{Option, none, some}
use Rattle.format.specs.Kinds.{known}
use Rattle.format.specs.Payload.{Payload, leaf, fields, shared_fields, items, shared_items, payload}
use Rattle.frames.specs.WriteList.{Frames, frame_kind, frame_name}
use Rattle.frames.specs.FramePieces.{mode_of}
use Rattle.twins.specs.Lax.{lax}
use Rattle.twins.specs.Events.{Event, after, own_event, events_until, first_twin}

-- of two frames, the one that stands first in the list: more is left from it on
abbrev pub earlier : Option (List ℕ) → Option (List ℕ) → Option (List ℕ)
earlier none b = b
earlier (some f) none = some f
earlier (some f) (some g) = cond (ltb (length f) (length g)) (some g) (some f)

-- the second only if there is no first
abbrev pub first_of : Option (List ℕ) → Option (List ℕ) → Option (List ℕ)
first_of none b = b
first_of (some f) b = some f

-- the event of a frame in an object, without those inside it
abbrev pub frame_own : ℕ → List ℕ → List Event
frame_own k [] = []
frame_own k (b ∷ s) =
    after [] (frame_kind (b ∷ s) (known b) s) λ x r.
    after [] (frame_name (b ∷ s) (some []) r) λ n q.
    own_event true k (b ∷ s) n

-- with no level left a frame is refused before its name is read
unfoldable pub own_of : ℕ → ℕ → List ℕ → List Event
own_of zero k s = []
own_of (suc d) k s = frame_own k s

-- the direct frames of the object whose fields begin at s
abbrev pub direct : {A : Type 0} → (List ℕ → Frames A) → (ℕ → List ℕ → List Event) → List ℕ → List Event
direct p o s = events_until p (o (length s)) (length s) s

-- inside the frames up to the close; `t` tells it of one
abbrev pub until_twin : {A : Type 0} → (List ℕ → Frames A) → (List ℕ → Option (List ℕ)) → ℕ → List ℕ → Option (List ℕ)
until_twin p t zero s = none
until_twin p t (suc n) [] = none
until_twin p t (suc n) (b ∷ s) = cond (eqb b 0) none (first_of (t (b ∷ s)) (after none (p (b ∷ s)) λ x r. until_twin p t n r))

module _ {A : Type 0} (p : Bool → List ℕ → Frames A) (t : Bool → List ℕ → Option (List ℕ)) (o : ℕ → List ℕ → List Event) where
  abbrev pub payload_twin : Payload → List ℕ → Option (List ℕ)
  payload_twin (leaf q) s = none
  payload_twin fields s = earlier (first_twin [] (direct (p true) o s)) (until_twin (p true) (t true) (length s) s)
  payload_twin shared_fields s = none
  payload_twin items s = until_twin (p false) (t false) (length s) s
  payload_twin shared_items s = none

  abbrev pub frame_twin : Bool → List ℕ → Option (List ℕ)
  frame_twin named [] = none
  frame_twin named (b ∷ s) =
      after none (frame_kind (b ∷ s) (known b) s) λ x r.
      after none (frame_name (b ∷ s) (mode_of named []) r) λ n q.
      payload_twin (payload x) q

-- inside the frame at s
unfoldable pub least_twin : ℕ → Bool → List ℕ → Option (List ℕ)
least_twin zero named s = none
least_twin (suc d) named s = frame_twin (lax d) (least_twin d) (own_of d) named s

unfoldable pub least_twin_of : ℕ → List ℕ → Option (List ℕ)
least_twin_of d [] = none
least_twin_of d (b ∷ s) = cond (eqb b 0) none (least_twin d false (b ∷ s))
