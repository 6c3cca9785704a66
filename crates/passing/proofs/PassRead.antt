-- A frame that was read is passed over, up to where the reader went; and its name is the name that is found.
use Rattle.std.specs.Prelude.{Option, None, Some}
use Rattle.format.specs.declared.Kind.{Kind}
use Prim.Native.Nat.{ℕ, zero, suc}
use mathlib.Core.Path.{◌≡◌, refl, ap, ◌∙◌}
use mathlib.Core.Bool.{Bool, true, false, cond}
use mathlib.Core.Option.{Option as Optional, none, some}
use mathlib.Core.List.{List, [], ◌∷◌}
use lib.ListN.{length}
use lib.Dec.{eqb}
use Rattle.number.proofs.Clash.{clash}
use Rattle.text.specs.Equal.{equal}
use Rattle.format.specs.declared.Flaw.{Flaw}
use Rattle.format.specs.declared.Flaw.TheVariants.{Blank, Long, NotUtf8}
use Rattle.format.specs.Kinds.{any}
use Rattle.format.specs.Mask.{has}
use Rattle.format.specs.Names.{read_name}
use Rattle.format.specs.Parse.{Out, fault, got}
use Rattle.format.specs.Payload.{Payload, leaf, fields, shared_fields, items, shared_items, payload}
use Rattle.format.specs.Tree.{Node, Tree}
use Rattle.frames.specs.declared.Refusal.TheVariants.{BadFrame, EmptyName, NameUsed, NotText}
use Rattle.frames.specs.WriteList.{Frames, refused, framed, next, name_found, frame_name, leaf_found, until_close, FrameReader, frame_payload, frame}
use Rattle.frames.specs.WriteList.{read_frames}
use Rattle.frames.specs.FramePieces.{writable}
use Rattle.frames.proofs.FrontLaws.{never, next_got, with_name, kind_by, kind_is}
use Rattle.frames.proofs.Used.{leaf_found_law}
use Rattle.twins.specs.Lax.{has_names}
use Rattle.twins.specs.Events.{after}
use Rattle.twins.specs.Own.{own_name}
use Rattle.twins.specs.Walk.{onward, name_rest}
use Rattle.passing.specs.Pass.{pass_until, pass_payload, pass_known, pass_frame, pass_over}
use Rattle.passing.specs.FrameNames.{name_known, name_of}

-- ---- a name

name_found_law : (f : List ℕ) (used : List (List ℕ)) (o : Out (List ℕ)) {n q : List ℕ} → name_found f used o ≡ framed n q → (fs : List Flaw) × (o ≡ got n fs q)
name_found_law f used (fault k) h = never h
name_found_law f used (got m fs r) {n} {q} h = go (has Long fs) (has Blank fs) (has NotUtf8 fs) (any (equal m) used) h
  where
    go : (a b c d : Bool)
        → cond a (refused BadFrame f) (cond b (refused EmptyName f) (cond c (refused NotText f) (cond d (refused NameUsed f) (framed m r)))) ≡ framed n q
        → (es : List Flaw) × (got m fs r ≡ got n es q)
    go true b c d h = never h
    go false true c d h = never h
    go false false true d h = never h
    go false false false true h = never h
    go false false false false h =
        let x : m ≡ n = cc in
        let y : r ≡ q = cc in
        (fs, rw (x, y))

name_rest_law : (f : List ℕ) (names : Optional (List (List ℕ))) (s : List ℕ) {n q : List ℕ} → frame_name f names s ≡ framed n q → name_rest (has_names names) s ≡ some q
name_rest_law f none s {n} {q} h = let z : s ≡ q = cc in ap some z
name_rest_law f (some used) s h = let w = name_found_law f used (read_name s) h in rw w.1

-- ---- frames up to the close

until_pass : {A : Type 0} (p : List (List ℕ) → List ℕ → Frames (List ℕ × A)) (g : List ℕ → Optional (List ℕ))
    → ((used : List (List ℕ)) (s : List ℕ) (x : List ℕ × A) (r : List ℕ) → p used s ≡ framed x r → g s ≡ some r)
    → (n : ℕ) (used : List (List ℕ)) (s : List ℕ) {xs : List (List ℕ × A)} {r : List ℕ} → until_close p n used s ≡ framed xs r → pass_until g n s ≡ some r
until_pass p g i zero used s h = never h
until_pass p g i (suc n) used [] h = never h
until_pass {A} p g i (suc n) used (b ∷ s) {xs} {r} h = go (λ x q ys u e. until_pass p g i n (x.0 ∷ used) q e) (eqb b 0) h
  where
    go : ((x : List ℕ × A) (q : List ℕ) (ys : List (List ℕ × A)) (u : List ℕ) → until_close p n (x.0 ∷ used) q ≡ framed ys u → pass_until g n q ≡ some u)
        → (t : Bool)
        → cond t (framed [] s) (next (p used (b ∷ s)) λ x r. next (until_close p n (x.0 ∷ used) r) λ xs q. framed (x ∷ xs) q) ≡ framed xs r
        → cond t (some s) (onward none (g (b ∷ s)) λ r. pass_until g n r) ≡ some r
    go ih true h = let z : s ≡ r = cc in ap some z
    go ih false h = next_got (p used (b ∷ s)) _ h λ x q e j. next_got (until_close p n (x.0 ∷ used) q) _ j λ ys u k l.
        let z : u ≡ r = cc in
        rw (i used (b ∷ s) x q e) (ih x q ys u k ∙ ap some z)

-- ---- a frame

module _ {A : Type 0} (p : FrameReader A) (g : Bool → List ℕ → Optional (List ℕ))
    (i : (names : Optional (List (List ℕ))) (s : List ℕ) (x : List ℕ × A) (r : List ℕ) → p names s ≡ framed x r → g (has_names names) s ≡ some r) where
  payload_pass : (f : List ℕ) (y : Payload) (s : List ℕ) {t : Node A} {r : List ℕ} → frame_payload p f y s ≡ framed t r → pass_payload g y s ≡ some r
  payload_pass f (leaf q) s {t} {r} h = next_got (leaf_found f (q s)) _ h λ v u e j. leaf_found_law f (q s) e λ fs k a b c. let z : u ≡ r = cc in rw k (ap some z)
  payload_pass f fields s {t} {r} h = next_got (until_close (λ used. p (some used)) (length s) [] s) _ h λ xs u e j.
      let z : u ≡ r = cc in
      until_pass (λ used. p (some used)) (g true) (λ used. i (some used)) (length s) [] s e ∙ ap some z
  payload_pass f shared_fields s h = never h
  payload_pass f items s {t} {r} h = next_got (until_close (λ used. p none) (length s) [] s) _ h λ xs u e j.
      let z : u ≡ r = cc in
      until_pass (λ used. p none) (g false) (λ used. i none) (length s) [] s e ∙ ap some z
  payload_pass f shared_items s h = never h

  frame_pass : (names : Optional (List (List ℕ))) (s : List ℕ) (x : List ℕ × Node A) (r : List ℕ) → frame p names s ≡ framed x r
      → pass_frame g (has_names names) s ≡ some r
  frame_pass names [] x r h = never h
  frame_pass names (b ∷ s) x r h = go (writable b) (rw (kind_is b (b ∷ s) s) at h)
    where
      go : (o : Option Kind)
          → (next (kind_by (b ∷ s) o s) λ k r. next (frame_name (b ∷ s) names r) λ n q. with_name n (frame_payload p (b ∷ s) (payload k) q)) ≡ framed x r
          → pass_known g (has_names names) o s ≡ some r
      go None h = never h
      go (Some k) h = next_got (frame_name (b ∷ s) names s) _ h λ n q e j. next_got (frame_payload p (b ∷ s) (payload k) q) _ j λ t u l m.
          let z : u ≡ r = cc in
          rw (name_rest_law (b ∷ s) names s e) (payload_pass (b ∷ s) (payload k) q l ∙ ap some z)

pub pass_read : (d : ℕ) (names : Optional (List (List ℕ))) (s : List ℕ) (x : List ℕ × Tree d) (r : List ℕ) → read_frames d names s ≡ framed x r
    → pass_over d (has_names names) s ≡ some r
unfolding read_frames pass_over
pass_read zero names s x r h = never h
pass_read (suc d) names s x r h = frame_pass (read_frames d) (pass_over d) (pass_read d) names s x r h

-- ---- the name of a frame

-- a frame's name is n, and q is left behind it
abbrev pub NamedAs : ℕ → List ℕ → List ℕ → Type 0
NamedAs d s n = (fs : List Flaw) × ((q : List ℕ) × (name_of d s ≡ got n fs q))

after_got : {A : Type 0} (o : Frames A) (g : A → List ℕ → Optional (List ℕ)) {n : List ℕ} → after none o g ≡ some n
    → {X : Type 0} → ((a : A) (q : List ℕ) → o ≡ framed a q → g a q ≡ some n → X) → X
after_got (refused m r) g h c = clash cc
after_got (framed a q) g h c = c a q refl h

pub own_name_law : (d : ℕ) (s n : List ℕ) → own_name d s ≡ some n → NamedAs d s n
unfolding own_name name_of
own_name_law zero s n h = clash cc
own_name_law (suc d) [] n h = clash cc
own_name_law (suc d) (b ∷ s) n h = go (writable b) (rw (kind_is b (b ∷ s) s) at h)
  where
    go : (o : Option Kind) → (after none (kind_by (b ∷ s) o s) λ k r. after none (frame_name (b ∷ s) (some []) r) λ n q. some n) ≡ some n
        → (fs : List Flaw) × ((q : List ℕ) × (name_known o s ≡ got n fs q))
    go None h = clash cc
    go (Some k) h = after_got (frame_name (b ∷ s) (some []) s) (λ n q. some n) h λ m q e j.
        let w = name_found_law (b ∷ s) [] (read_name s) e in
        let z : m ≡ n = cc in
        (w.0, (q, w.1 ∙ ap (λ t. got t w.0 q) z))

pub read_name_law : (d : ℕ) (used : List (List ℕ)) (s : List ℕ) (x : List ℕ × Tree d) (r : List ℕ) → read_frames d (some used) s ≡ framed x r → NamedAs d s x.0
unfolding read_frames name_of
read_name_law zero used s x r h = never h
read_name_law (suc d) used [] x r h = never h
read_name_law (suc d) used (b ∷ s) x r h = go (writable b) (rw (kind_is b (b ∷ s) s) at h)
  where
    go : (o : Option Kind)
        → (next (kind_by (b ∷ s) o s) λ k r. next (frame_name (b ∷ s) (some used) r) λ n q. with_name n (frame_payload (read_frames d) (b ∷ s) (payload k) q))
        ≡ framed x r
        → (fs : List Flaw) × ((q : List ℕ) × (name_known o s ≡ got x.0 fs q))
    go None h = never h
    go (Some k) h = next_got (frame_name (b ∷ s) (some used) s) _ h λ m q e j. next_got (frame_payload (read_frames d) (b ∷ s) (payload k) q) _ j λ t u i l.
        let w = name_found_law (b ∷ s) used (read_name s) e in
        let z : x ≡ (m, t) = cc in
        (w.0, (q, rw z w.1))
