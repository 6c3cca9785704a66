-- The names that the lax reader meets, in the order of reading; and the first frame whose name was met before in its object. A frame whose payload is
-- refused is among them: its name comes first (document 01, "The write list").
use Rattle.std.specs.Prelude.{ℕ, zero, suc, ◌<◌, Bool, true, false, ◌&&◌, cond, List, [], ◌∷◌, ◌++◌, length, eqb}
use Rattle.std.proofs.Math.Option.{Option, none, some}
use Rattle.text.specs.Equal.{equal}
use Rattle.format.specs.Kinds.{known, any}
use Rattle.format.specs.Payload.{Payload, leaf, fields, shared_fields, items, shared_items, payload}
use Rattle.frames.specs.declared.Refusal.TheVariants.{NameUsed}
use Rattle.frames.specs.WriteList.{Frames, refused, framed, frame_kind, frame_name}
use Rattle.frames.specs.FramePieces.{mode_of}
use Rattle.twins.specs.Lax.{lax}

-- an object, by how much of the list is left where its fields begin; what is left from a frame of it on; the frame's name
pub record Event : Type 0 where
  pub object : ℕ
  pub from : List ℕ
  pub name : List ℕ

-- what comes of a part that was read; z if it was refused
abbrev pub after : {A B : Type 0} → B → Frames A → (A → List ℕ → B) → B
after z (refused n r) g = z
after z (framed a r) g = g a r

abbrev pub own_event : Bool → ℕ → List ℕ → List ℕ → List Event
own_event true k f n = record { object = k; from = f; name = n } ∷ []
own_event false k f n = []

-- of the frames up to the close: `p` reads one, `e` gives its events
abbrev pub events_until : {A : Type 0} → (List ℕ → Frames A) → (List ℕ → List Event) → ℕ → List ℕ → List Event
events_until p e zero s = []
events_until p e (suc n) [] = []
events_until p e (suc n) (b ∷ s) = cond (eqb b 0) [] (e (b ∷ s) ++ after [] (p (b ∷ s)) λ x r. events_until p e n r)

-- the events of a frame that stands in the object k, if it has a name
abbrev pub EventReader : Type 0
EventReader = Bool → ℕ → List ℕ → List Event

abbrev pub payload_events : {A : Type 0} → (Bool → List ℕ → Frames A) → EventReader → Payload → List ℕ → List Event
payload_events p e (leaf q) s = []
payload_events p e fields s = events_until (p true) (e true (length s)) (length s) s
payload_events p e shared_fields s = []
payload_events p e items s = events_until (p false) (e false (length s)) (length s) s
payload_events p e shared_items s = []

abbrev pub frame_events : {A : Type 0} → (Bool → List ℕ → Frames A) → EventReader → EventReader
frame_events p e named k [] = []
frame_events p e named k (b ∷ s) =
    after [] (frame_kind (b ∷ s) (known b) s) λ x r.
    after [] (frame_name (b ∷ s) (mode_of named []) r) λ n q.
    own_event named k (b ∷ s) n ++ payload_events p e (payload x) q

unfoldable pub events : ℕ → EventReader
events zero named k s = []
events (suc d) named k s = frame_events (lax d) (events d) named k s

unfoldable pub events_of : ℕ → List ℕ → List Event
events_of d [] = []
events_of d (b ∷ s) = cond (eqb b 0) [] (events d false (length (b ∷ s)) (b ∷ s))

-- ---- the first whose name was met before in its object

abbrev pub is_of : ℕ → List ℕ → Event → Bool
is_of k n e = eqb k e.object && equal n e.name

-- what is left from it on; `seen` came before
unfoldable pub first_twin : List Event → List Event → Option (List ℕ)
first_twin seen [] = none
first_twin seen (e ∷ es) = cond (any (is_of e.object e.name) seen) (some e.from) (first_twin (e ∷ seen) es)

-- what was seen when these have passed too: the last stands first
abbrev pub past : List Event → List Event → List Event
past seen [] = seen
past seen (e ∷ es) = past (e ∷ seen) es

-- refusal 4 there; else what the lax reader says
abbrev pub decide : {A : Type 0} → Option (List ℕ) → Frames A → Frames A
decide none o = o
decide (some f) o = refused NameUsed f

-- each stands behind the one before it: less of the list is left
abbrev pub Falls : ℕ → List Event → Type 0
Falls m [] = Unit {0}
Falls m (e ∷ es) = (length e.from < m) × Falls (length e.from) es
