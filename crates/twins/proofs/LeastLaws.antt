-- The first twin in the order of reading is the earlier, at each object, of the first among its direct frames and the first inside them.
use Prim.Native.Nat.{ℕ, zero, suc, ◌≤◌, ◌<◌}
use native.Mathlib.Omega.{arith}
use mathlib.Core.Path.{◌≡◌, refl, ap, ◌∙◌, fun_ext}
use mathlib.Core.Bool.{Bool, true, false, not, cond}
use mathlib.Core.Option.{Option, none}
use mathlib.Core.List.{List, [], ◌∷◌}
use lib.ListN.{length}
use lib.Dec.{eqb}
use borrow.Author.Tests.{ne_eqb, eq-eqb}
use Rattle.format.specs.Kinds.{known}
use Rattle.format.specs.Payload.{Payload, leaf, fields, shared_fields, items, shared_items, payload}
use Rattle.format.proofs.Lists.{append_nil, all_of}
use Rattle.frames.specs.WriteList.{frame_name, read_list}
use Rattle.frames.specs.FramePieces.{mode_of}
use Rattle.twins.specs.Lax.{LaxReader, lax_list}
use Rattle.twins.specs.Events.{Event, after, events_until, EventReader, payload_events, events, events_of, first_twin, decide}
use Rattle.twins.specs.Least.{earlier, direct, until_twin, payload_twin, frame_twin, least_twin, least_twin_of}
use Rattle.twins.proofs.FrontTakes.{kind_elim, frames_elim}
use Rattle.twins.proofs.FrameEvents.{AllAt, takes_of, inner_before, contents_falls}
use Rattle.twins.proofs.LayerEvents.{frame_inner}
use Rattle.twins.proofs.LaxEvents.{inner_of, lax_at}
use Rattle.twins.proofs.KeepLaws.{keep, drops, keep_append, keep_all, keep_none, twin_split}
use Rattle.twins.proofs.LeastUntil.{until_keep, until_least}
use Rattle.twins.proofs.StrictLaws.{strict_is}

module _ {A : Type 0} {l : LaxReader A} {e : EventReader} {o : ℕ → List ℕ → List Event} {i : Bool → List ℕ → List Event} (t : Bool → List ℕ → Option (List ℕ))
    (g : AllAt l e o i) (h : (named : Bool) (s : List ℕ) → first_twin [] (i named s) ≡ t named s) where
  own_kept : (k : ℕ) (s : List ℕ) → length s ≤ k → keep (eqb k) (e true k s) ≡ o k s
  own_kept k s c =
      let a = g true k s in
      rw (
        a.shape,
        keep_append (eqb k) (o k s) (i true s),
        keep_all (eqb k) (o k s) (all_of (λ e. e.object ≡ k) (λ e. eqb k e.object ≡ true) (λ e z. rw (z, eq-eqb k k refl)) (o k s) a.own),
        keep_none (eqb k) (i true s)
            (all_of (λ e. e.object < length s) (λ e. eqb k e.object ≡ false) (λ e z. ne_eqb k e.object (λ q. omega arith)) (i true s) a.low),
        append_nil (o k s),
      )

  inner_kept : (k : ℕ) (s : List ℕ) → length s ≤ k → keep (drops (eqb k)) (e true k s) ≡ i true s
  inner_kept k s c =
      let a = g true k s in
      rw (
        a.shape,
        keep_append (drops (eqb k)) (o k s) (i true s),
        keep_none (drops (eqb k)) (o k s)
            (all_of (λ e. e.object ≡ k) (λ e. not (eqb k e.object) ≡ false) (λ e z. rw (z, eq-eqb k k refl)) (o k s) a.own),
        keep_all (drops (eqb k)) (i true s)
            (all_of (λ e. e.object < length s) (λ e. not (eqb k e.object) ≡ true) (λ e z. rw (ne_eqb k e.object (λ q. omega arith))) (i true s)
            a.low),
      )

  inner_least : (named : Bool) (s : List ℕ) → first_twin [] (events_until (l named) (i named) (length s) s) ≡ until_twin (l named) (t named) (length s) s
  inner_least named s = until_least (l named) (takes_of g named) (i named) (t named) (h named) (λ q. (g named 0 q).low) (inner_before g named) (length s) s

  fields_least : (s : List ℕ) → first_twin [] (events_until (l true) (e true (length s)) (length s) s)
      ≡ earlier (first_twin [] (direct (l true) o s)) (until_twin (l true) (t true) (length s) s)
  fields_least s =
      let k = length s in
      twin_split (eqb k) (suc k) [] (events_until (l true) (e true k) k s) (contents_falls g true s)
      ∙ rw (
        until_keep (l true) (takes_of g true) k (eqb k) (e true k) (o k) (own_kept k) k s (omega arith),
        until_keep (l true) (takes_of g true) k (drops (eqb k)) (e true k) (i true) (inner_kept k) k s (omega arith),
        inner_least true s,
      )

  -- an item has no event of its own
  items_least : (s : List ℕ) → first_twin [] (events_until (l false) (e false (length s)) (length s) s) ≡ until_twin (l false) (t false) (length s) s
  items_least s = ap (λ x. first_twin [] (events_until (l false) x (length s) s)) (fun_ext λ q. (g false (length s) q).shape) ∙ inner_least false s

  payload_least : (y : Payload) (s : List ℕ) → first_twin [] (payload_events l e y s) ≡ payload_twin l t o y s
  unfolding first_twin
  payload_least (leaf q) s = refl
  payload_least fields s = fields_least s
  payload_least shared_fields s = refl
  payload_least items s = items_least s
  payload_least shared_items s = refl

  frame_least : (named : Bool) (s : List ℕ) → first_twin [] (frame_inner l e named s) ≡ frame_twin l t o named s
  unfolding first_twin
  frame_least named [] = refl
  frame_least named (b ∷ s) =
      kind_elim (b ∷ s) s (known b)
      (λ y. first_twin [] (after [] y λ x r. after [] (frame_name (b ∷ s) (mode_of named []) r) λ n q. payload_events l e (payload x) q)
      ≡ (after none y λ x r. after none (frame_name (b ∷ s) (mode_of named []) r) λ n q. payload_twin l t o (payload x) q))
      (λ n r. refl)
      λ x. frames_elim (frame_name (b ∷ s) (mode_of named []) s)
      (λ y. first_twin [] (after [] y λ n q. payload_events l e (payload x) q) ≡ (after none y λ n q. payload_twin l t o (payload x) q))
      (λ n r. refl)
      λ n q j. payload_least (payload x) q

-- ---- every depth, and the whole list

inner_is_least : (d : ℕ) (named : Bool) (s : List ℕ) → first_twin [] (inner_of d named s) ≡ least_twin d named s
unfolding least_twin first_twin
inner_is_least zero named s = refl
inner_is_least (suc d) named s = frame_least (least_twin d) (lax_at d) (inner_is_least d) named s

pub first_is_least : (d : ℕ) (s : List ℕ) → first_twin [] (events_of d s) ≡ least_twin_of d s
unfolding events_of least_twin_of first_twin
first_is_least d [] = refl
first_is_least d (b ∷ s) = go (eqb b 0)
  where
    go : (z : Bool) → first_twin [] (cond z [] (events d false (length (b ∷ s)) (b ∷ s))) ≡ cond z none (least_twin d false (b ∷ s))
    go true = refl
    go false = ap (first_twin []) (lax_at d false (length (b ∷ s)) (b ∷ s)).shape ∙ inner_is_least d false (b ∷ s)

pub strict_is_least : (d : ℕ) (s : List ℕ) → read_list d s ≡ decide (least_twin_of d s) (lax_list d s)
strict_is_least d s = strict_is d s ∙ ap (λ t. decide t (lax_list d s)) (first_is_least d s)
