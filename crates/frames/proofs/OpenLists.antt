-- A list that ends in the middle, and what follows it: of a list that is refused because it ends, nothing is refused once more stands behind it; and behind a
-- list that describes a tree all is too much.
use Prim.Native.Nat.{ℕ, zero, suc, ◌+◌, ◌≤◌}
use native.Mathlib.Omega.{arith}
use mathlib.Core.Path.{◌≡◌, refl, sym, ap, ◌∙◌}
use mathlib.Core.Logic.{inl, inr}
use mathlib.Core.Bool.{Bool, true, false, cond}
use mathlib.Core.Option.{Option, none, some}
use mathlib.Core.List.{List, [], ◌∷◌, ◌++◌, map, append_assoc}
use lib.ListN.{length, length-append}
use lib.Dec.{eqb}
use Rattle.number.proofs.Clash.{clash}
use Rattle.format.specs.declared.Kind.{Kind}
use Rattle.frames.specs.declared.Refusal.TheVariants.{ListEnds, NoneOpen, Complete}
use Rattle.format.specs.Kinds.{known}
use Rattle.format.specs.Tree.{array, object, Tree}
use Rattle.format.specs.Payload.{Payload, leaf, fields, shared_fields, items, shared_items, payload}
use Rattle.frames.specs.WriteList.{Frames, refused, framed, next, frame_kind, frame_name, leaf_found, until_close, FrameReader, frame_payload, frame}
use Rattle.frames.specs.WriteList.{read_frames, only, read_list}
use Rattle.format.proofs.Lists.{append_nil}
use Rattle.frames.proofs.FrontLaws.{never, next_got}
use Rattle.frames.proofs.FramesLocal.{next_refused, LocalFrames, Judges, until_got, until_refused}
use Rattle.frames.proofs.FrameParts.{name_got, name_refused, leaf_refused}
use Rattle.frames.proofs.Refusals.{kind_got, kind_refused, frames_local, frames_judge}

-- ---- how much of the list is left, read or refused

abbrev pub left_of : {A : Type 0} → Frames A → ℕ
left_of (refused n r) = length r
left_of (framed a r) = length r

next_left : {A B : Type 0} (o : Frames A) (g : A → List ℕ → Frames B) (n : ℕ) → left_of o ≤ n
    → ((a : A) (q : List ℕ) → left_of (g a q) ≤ length q) → left_of (next o g) ≤ n
next_left (refused k r) g n h f = h
next_left (framed a q) g n h f = omega (arith, f a q)

end_left : (s w r : List ℕ) → s ≡ w ++ r → length r ≤ length s
end_left s w r e = omega (arith, ap length e ∙ length-append w r)

frames_left : (d : ℕ) (names : Option (List (List ℕ))) (b : ℕ) (s : List ℕ) → left_of (read_frames d names (b ∷ s)) ≤ length (b ∷ s)
frames_left d names b s = go (read_frames d names (b ∷ s)) refl
  where
    go : (o : Frames (List ℕ × Tree d)) → read_frames d names (b ∷ s) ≡ o → left_of o ≤ length (b ∷ s)
    go (framed x r) e = let w = frames_local d names (b ∷ s) x r e in end_left (b ∷ s) w.0 r w.1
    go (refused n r) e = elim (frames_judge d names (b ∷ s) n r (omega arith) e) [
      | inl i ↦ omega (arith, ap length i.1)
      | inr i ↦ end_left (b ∷ s) i.before r i.splits
    ]

-- ---- a list that ends in the middle, and what follows it

-- of what follows, no more is left than there is
abbrev Open : {A : Type 0} → (List ℕ → Frames A) → Type 0
Open p = (s r : List ℕ) → 1 ≤ length s → p s ≡ refused ListEnds r → (m : List ℕ) → left_of (p (s ++ m)) ≤ length m

module _ {A : Type 0} (p : List (List ℕ) → List ℕ → Frames (List ℕ × A)) (loc : (used : List (List ℕ)) → LocalFrames (p used))
    (ref : (used : List (List ℕ)) → Judges (p used))
    (opn : (used : List (List ℕ)) → Open (p used)) where
  until_left : (k : ℕ) (used : List (List ℕ)) (s : List ℕ) → left_of (until_close p k used s) ≤ length s
  until_left k used s = go (until_close p k used s) refl
    where
      go : (o : Frames (List (List ℕ × A))) → until_close p k used s ≡ o → left_of o ≤ length s
      go (framed xs r) e = let w = until_got p loc k used s xs r e in end_left s w.0 r w.1
      go (refused n r) e = elim (until_refused p loc ref k used s n r e) [
        | inl i ↦ omega (arith, ap length i.1)
        | inr i ↦ end_left s i.1.0 r i.1.1
      ]

  more_left : (j : ℕ) (used : List (List ℕ)) (x : List ℕ × A) (q : List ℕ)
      → left_of (next (until_close p j (x.0 ∷ used) q) λ xs u. framed (x ∷ xs) u) ≤ length q
  more_left j used x q = next_left (until_close p j (x.0 ∷ used) q) (λ xs u. framed (x ∷ xs) u) (length q) (until_left j (x.0 ∷ used) q) (λ xs u. omega arith)

  until_open : (k j : ℕ) (used : List (List ℕ)) (s r : List ℕ) → length s ≤ k → until_close p k used s ≡ refused ListEnds r → (m : List ℕ)
      → left_of (until_close p j used (s ++ m)) ≤ length m
  until_open zero j used [] r l h m = until_left j used m
  until_open zero j used (b ∷ s) r l h m = absurd (omega arith)
  until_open (suc k) zero used [] r l h m = until_left zero used m
  until_open (suc k) (suc j) used [] r l h m = until_left (suc j) used m
  until_open (suc k) zero used (b ∷ s) r l h m = omega arith
  until_open (suc k) (suc j) used (b ∷ s) r l h m = go (eqb b 0) (until_open k j) h
    where
      go : (t : Bool) → ((used : List (List ℕ)) (s r : List ℕ) → length s ≤ k → until_close p k used s ≡ refused ListEnds r → (m : List ℕ)
          → left_of (until_close p j used (s ++ m)) ≤ length m)
          → cond t (framed [] s) (next (p used (b ∷ s)) λ x q. next (until_close p k (x.0 ∷ used) q) λ xs u. framed (x ∷ xs) u) ≡ refused ListEnds r
          → left_of
          (cond t (framed [] (s ++ m)) (next (p used (b ∷ (s ++ m))) λ x q. next (until_close p j (x.0 ∷ used) q) λ xs u. framed (x ∷ xs) u)) ≤ length m
      go true ih h = never (sym h)
      go false ih h = next_refused (p used (b ∷ s)) _ h
          (λ e. next_left (p used (b ∷ (s ++ m))) _ (length m) (opn used (b ∷ s) r (omega arith) e m) (more_left j used))
          (λ x q e i. next_refused (until_close p k (x.0 ∷ used) q) _ i (λ f. on x q (loc used (b ∷ s) x q e) f) (λ xs u f g. never (sym g)))
        where
          on : (x : List ℕ × A) (q : List ℕ) → (w : List ℕ) × (b ∷ s ≡ w ++ q) × (1 ≤ length w) × ((u : List ℕ) → p used (w ++ u) ≡ framed x u)
              → until_close p k (x.0 ∷ used) q ≡ refused ListEnds r
              → left_of (next (p used (b ∷ (s ++ m))) λ x q. next (until_close p j (x.0 ∷ used) q) λ xs u. framed (x ∷ xs) u) ≤ length m
          on x q w f =
              let e : b ∷ (s ++ m) ≡ w.0 ++ (q ++ m) = ap (λ t. t ++ m) w.1 ∙ append_assoc w.0 q m in
              let n : suc (length s) ≡ length w.0 + length q = ap length w.1 ∙ length-append w.0 q in
              rw (e, w.3 (q ++ m))
              (next_left (until_close p j (x.0 ∷ used) (q ++ m)) (λ xs u. framed (x ∷ xs) u) (length m)
              (ih (x.0 ∷ used) q r (omega (arith, w.2)) f m) (λ xs u. omega arith))

module _ {A : Type 0} (p : FrameReader A) (loc : (names : Option (List (List ℕ))) → LocalFrames (p names))
    (ref : (names : Option (List (List ℕ))) → Judges (p names))
    (opn : (names : Option (List (List ℕ))) → Open (p names)) where
  payload_open : (f : List ℕ) (how : Payload) (s r : List ℕ) → frame_payload p f how s ≡ refused ListEnds r → (g m : List ℕ)
      → left_of (frame_payload p g how (s ++ m)) ≤ length m
  payload_open f (leaf q) s r h g m = next_refused (leaf_found f (q s)) _ h (λ e. absurd (leaf_refused f (q s) ListEnds r e).0) (λ v u e i. never (sym i))
  payload_open f fields s r h g m = next_refused (until_close (λ used. p (some used)) (length s) [] s) _ h
      (λ e. next_left (until_close (λ used. p (some used)) (length (s ++ m)) [] (s ++ m)) (λ xs u. framed (object xs) u) (length m)
      (until_open (λ used. p (some used)) (λ used. loc (some used)) (λ used. ref (some used)) (λ used. opn (some used)) (length s) (length (s ++ m)) [] s r
      (omega arith) e m) (λ xs u. omega arith))
      (λ xs u e i. never (sym i))
  payload_open f shared_fields s r h g m = clash cc
  payload_open f items s r h g m = next_refused (until_close (λ used. p none) (length s) [] s) _ h
      (λ e. next_left (until_close (λ used. p none) (length (s ++ m)) [] (s ++ m)) (λ xs u. framed (array (map (λ x. x.1) xs)) u) (length m)
      (until_open (λ used. p none) (λ used. loc none) (λ used. ref none) (λ used. opn none) (length s) (length (s ++ m)) [] s r (omega arith) e m)
      (λ xs u. omega arith))
      (λ xs u e i. never (sym i))
  payload_open f shared_items s r h g m = clash cc

  frame_open : (names : Option (List (List ℕ))) → Open (frame p names)
  frame_open names [] r l h m = absurd (omega arith)
  frame_open names (b ∷ s) r l h m =
      next_refused (frame_kind (b ∷ s) (known b) s) _ h (λ e. absurd (kind_refused (b ∷ s) (known b) s ListEnds r e).0)
      λ k u i h₁. next_refused (frame_name (b ∷ s) names u) _ h₁ (λ e. absurd (name_refused (b ∷ s) names u ListEnds r e).0)
      λ n q j h₂. next_refused (frame_payload p (b ∷ s) (payload k) q) _ h₂ (λ e. on k u i n q j e) (λ t v e h₃. never (sym h₃))
    where
      on : (k : Kind) (u : List ℕ) → frame_kind (b ∷ s) (known b) s ≡ framed k u → (n q : List ℕ) → frame_name (b ∷ s) names u ≡ framed n q
          → frame_payload p (b ∷ s) (payload k) q ≡ refused ListEnds r → left_of (frame p names (b ∷ (s ++ m))) ≤ length m
      on k u i n q j e =
          let f = b ∷ (s ++ m) in
          let a = kind_got (b ∷ s) (known b) s i in
          let c = name_got (b ∷ s) names u j in
          let y : s ++ m ≡ c.0 ++ (q ++ m) = ap (λ t. t ++ m) (a.0 ∙ c.1) ∙ append_assoc c.0 q m in
          let z : frame_name f names (s ++ m) ≡ framed n (q ++ m) = ap (frame_name f names) y ∙ c.2 f (q ++ m) in
          rw (a.1 f (s ++ m), z) (next_left (frame_payload p f (payload k) (q ++ m)) (λ t v. framed (n, t) v) (length m)
          (payload_open (b ∷ s) (payload k) q r e f m) (λ t v. omega arith))

frames_open : (d : ℕ) (names : Option (List (List ℕ))) → Open (read_frames d names)
unfolding read_frames
frames_open zero names s r l h m = clash cc
frames_open (suc d) names s r l h m = frame_open (read_frames d) (frames_local d) (frames_judge d) (frames_open d) names s r l h m

-- ---- the whole list

only_left : (d : ℕ) (x : List ℕ × Tree d) (q : List ℕ) → left_of (only x q) ≤ length q
only_left d x [] = omega arith
only_left d x (b ∷ q) = omega arith

list_left : (d : ℕ) (s : List ℕ) → left_of (read_list d s) ≤ length s
unfolding read_list
list_left d [] = omega arith
list_left d (b ∷ s) = go (eqb b 0)
  where
    go : (t : Bool) → left_of (cond t (refused NoneOpen (b ∷ s)) (next (read_frames d none (b ∷ s)) only)) ≤ length (b ∷ s)
    go true = omega arith
    go false = next_left (read_frames d none (b ∷ s)) only (length (b ∷ s)) (frames_left d none b s) (only_left d)

pub list_open : (d : ℕ) (s r : List ℕ) → read_list d s ≡ refused ListEnds r → (m : List ℕ) → left_of (read_list d (s ++ m)) ≤ length m
unfolding read_list
list_open d [] r h m = list_left d m
list_open d (b ∷ s) r h m = go (eqb b 0) h
  where
    last : (x : List ℕ × Tree d) (q : List ℕ) → only x q ≡ refused ListEnds r → ⊥
    last x [] h = never (sym h)
    last x (c ∷ q) h = clash cc

    go : (t : Bool) → cond t (refused NoneOpen (b ∷ s)) (next (read_frames d none (b ∷ s)) only) ≡ refused ListEnds r
        → left_of (cond t (refused NoneOpen (b ∷ (s ++ m))) (next (read_frames d none (b ∷ (s ++ m))) only)) ≤ length m
    go true h = clash cc
    go false h = next_refused (read_frames d none (b ∷ s)) only h
        (λ e. next_left (read_frames d none (b ∷ (s ++ m))) only (length m) (frames_open d none (b ∷ s) r (omega arith) e m) (only_left d))
        (λ x q e i. absurd (last x q i))

-- a list that describes a tree, and more
pub list_complete : (d : ℕ) (s : List ℕ) (t : Tree d) → read_list d s ≡ framed t [] → (m : List ℕ) → 1 ≤ length m → read_list d (s ++ m) ≡ refused Complete m
unfolding read_list
list_complete d [] t h m l = never h
list_complete d (b ∷ s) t h m l = go (eqb b 0) h
  where
    behind : (x : List ℕ × Tree d) (m : List ℕ) → 1 ≤ length m → only x m ≡ refused Complete m
    behind x [] l = absurd (omega arith)
    behind x (c ∷ m) l = refl

    last : (x : List ℕ × Tree d) (q : List ℕ) → only x q ≡ framed t [] → q ≡ []
    last x [] h = refl
    last x (c ∷ q) h = never h

    go : (z : Bool) → cond z (refused NoneOpen (b ∷ s)) (next (read_frames d none (b ∷ s)) only) ≡ framed t []
        → cond z (refused NoneOpen (b ∷ (s ++ m))) (next (read_frames d none (b ∷ (s ++ m))) only) ≡ refused Complete m
    go true h = never h
    go false h = next_got (read_frames d none (b ∷ s)) only h λ x q e i.
        let w = frames_local d none (b ∷ s) x q e in
        let y : w.0 ≡ b ∷ s = sym (append_nil w.0) ∙ ap (λ u. w.0 ++ u) (sym (last x q i)) ∙ sym w.1 in
        let z : read_frames d none (b ∷ (s ++ m)) ≡ framed x m = ap (λ u. read_frames d none (u ++ m)) (sym y) ∙ w.3 m in
        rw z (behind x m l)
