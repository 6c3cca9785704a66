-- The parts of a frame, its name and its payload: what was read of them reads the same whatever stands behind it; and what a refusal in them carries.
use Prim.Native.Nat.{ℕ, ◌≤◌}
use native.Mathlib.Omega.{arith}
use mathlib.Core.Path.{◌≡◌, refl, sym, ap, ◌∙◌, subst}
use mathlib.Core.Logic.{◌⊎◌, inl, inr}
use mathlib.Core.Bool.{Bool, true, false, ◌||◌, cond}
use mathlib.Core.Option.{Option, none, some}
use mathlib.Core.List.{List, [], ◌++◌, map}
use lib.ListN.{length, length-append}
use Rattle.text.specs.Equal.{equal}
use Rattle.format.specs.declared.Kind.{Kind}
use Rattle.frames.specs.declared.Refusal.{Refusal}
use Rattle.frames.specs.declared.Refusal.TheVariants.{ListEnds, BadFrame, EmptyName, NameUsed, NotText}
use Rattle.format.specs.Kinds.{any}
use Rattle.format.specs.declared.Flaw.{Flaw}
use Rattle.format.specs.declared.Flaw.TheVariants.{Blank, Long, Low, NotUtf8}
use Rattle.format.specs.Parse.{Out, fault, got, raise, make}
use Rattle.format.specs.Names.{is_empty, read_text, read_name}
use Rattle.format.specs.Mask.{has}
use Rattle.format.specs.Tree.{Leaf, Node, atom, array, object}
use Rattle.format.specs.Payload.{Payload, leaf, fields, shared_fields, items, shared_items, payload, value, head}
use Rattle.frames.specs.WriteList.{Frames, refused, framed, name_found, frame_name, leaf_found, until_close, FrameReader, frame_payload}
use Rattle.format.proofs.Lists.{append_nil}
use Rattle.format.proofs.Local.{bind_got, with_put, Local, local_bind, local_raise}
use Rattle.format.proofs.HeadParts.{local_text, local_head}
use Rattle.frames.proofs.FrontLaws.{never, next_got}
use Rattle.frames.proofs.FramesLocal.{next_refused, LocalFrames, OfFrame, Judges, until_got, until_refused}

-- a refusal that carries the frame f
pub carried : {A : Type 0} {f r : List ℕ} {n : Refusal} (m : Refusal) → OfFrame m → ◌≡◌ {A = Frames A} (refused m f) (refused n r) → OfFrame n × (f ≡ r)
carried {A} {f} {r} {n} m o h = let z : m ≡ n = cc in (subst OfFrame z o, cc)

-- ---- a name

name_local : Local read_name
name_local = local_bind read_text (λ n r. raise (is_empty n) Blank (got n [] r)) local_text (λ n. local_raise (is_empty n) Blank n)

name_found_law : (f : List ℕ) (used : List (List ℕ)) (n : List ℕ) (fs : List Flaw) (r : List ℕ) {m q : List ℕ} → name_found f used (got n fs r) ≡ framed m q
    → (r ≡ q) × ((f' q' : List ℕ) → name_found f' used (got n fs q') ≡ framed m q')
name_found_law f used n fs r {m} {q} h = go (has Long fs) (has Blank fs) (has NotUtf8 fs) (any (equal n) used) h
  where
    go : (a b c d : Bool)
        → cond a (refused BadFrame f) (cond b (refused EmptyName f) (cond c (refused NotText f) (cond d (refused NameUsed f) (framed n r)))) ≡ framed m q
        → (r ≡ q) × ((f' q' : List ℕ) → cond a (refused BadFrame f')
        (cond b (refused EmptyName f') (cond c (refused NotText f') (cond d (refused NameUsed f') (framed n q')))) ≡ framed m q')
    go true b c d h = never h
    go false true c d h = never h
    go false false true d h = never h
    go false false false true h = never h
    go false false false false h = let z : n ≡ m = cc in (cc, λ f' q'. rw z)

abbrev NameGot : Option (List (List ℕ)) → List ℕ → List ℕ → List ℕ → Type 0
NameGot names s m q = (v : List ℕ) × (s ≡ v ++ q) × ((f' q' : List ℕ) → frame_name f' names (v ++ q') ≡ framed m q')

pub name_got : (f : List ℕ) (names : Option (List (List ℕ))) (s : List ℕ) {m q : List ℕ} → frame_name f names s ≡ framed m q → NameGot names s m q
name_got f none s {m} {q} h = let z : [] ≡ m = cc in ([], cc, λ f' q'. ap (λ n. framed n q') z)
name_got f (some used) s {m} {q} h = go (read_name s) refl h
  where
    go : (o : Out (List ℕ)) → read_name s ≡ o → name_found f used o ≡ framed m q → NameGot (some used) s m q
    go (fault k) e h = never h
    go (got n fs r) e h =
        let w = name_local s n fs r e in
        let g = name_found_law f used n fs r h in
        (w.0, w.1 ∙ ap (λ t. w.0 ++ t) g.0, λ f' q'. rw (w.2 q') (g.1 f' q'))

pub name_refused : (f : List ℕ) (names : Option (List (List ℕ))) (s : List ℕ) (n : Refusal) (r : List ℕ)
    → frame_name f names s ≡ refused n r → OfFrame n × (f ≡ r)
name_refused f none s n r h = never (sym h)
name_refused f (some used) s n r h = go (read_name s) h
  where
    all : (m u : List ℕ) (a b c d : Bool) → cond a (refused BadFrame f)
        (cond b (refused EmptyName f) (cond c (refused NotText f) (cond d (refused NameUsed f) (framed m u)))) ≡ refused n r → OfFrame n × (f ≡ r)
    all m u true b c d h = carried BadFrame tt h
    all m u false true c d h = carried EmptyName tt h
    all m u false false true d h = carried NotText tt h
    all m u false false false true h = carried NameUsed tt h
    all m u false false false false h = never (sym h)

    go : (o : Out (List ℕ)) → name_found f used o ≡ refused n r → OfFrame n × (f ≡ r)
    go (fault k) h = carried BadFrame tt h
    go (got m fs u) h = all m u (has Long fs) (has Blank fs) (has NotUtf8 fs) (any (equal m) used) h

-- ---- a leaf

leaf_local : (k : Kind) (p : List ℕ → Out Leaf) → payload k ≡ leaf p → Local p
unfolding head
leaf_local k p i s v fs r h =
    let e : head k s ≡ got (value v) (fs ++ []) r = rw (i, h) (with_put fs [] (value v) r) in
    let w = local_head k s (value v) (fs ++ []) r e in
    (w.0, w.1, λ q. back (w.0 ++ q) q (rw i at (w.2 q)))
  where
    back : (t q : List ℕ) → make value (p t) ≡ got (value v) (fs ++ []) q → p t ≡ got v fs q
    back t q h = bind_got (p t) _ h λ u es q' gs e k ef.
        let z : value u ≡ value v = cc in
        let x : u ≡ v = cc in
        let y : q' ≡ q = cc in
        let g : gs ≡ [] = cc in
        let f : es ≡ fs = sym (append_nil es) ∙ sym (ef ∙ ap (λ t. es ++ t) g) ∙ append_nil fs in
        rw (← x, ← y, ← f) e

leaf_found_law : (f : List ℕ) (v : Leaf) (fs : List Flaw) (r : List ℕ) {u : Leaf} {q : List ℕ} → leaf_found f (got v fs r) ≡ framed u q
    → (r ≡ q) × ((f' q' : List ℕ) → leaf_found f' (got v fs q') ≡ framed u q')
leaf_found_law f v fs r {u} {q} h = go (has Long fs || has Low fs) (has NotUtf8 fs) h
  where
    go : (a b : Bool) → cond a (refused BadFrame f) (cond b (refused NotText f) (framed v r)) ≡ framed u q
        → (r ≡ q) × ((f' q' : List ℕ) → cond a (refused BadFrame f') (cond b (refused NotText f') (framed v q')) ≡ framed u q')
    go true b h = never h
    go false true h = never h
    go false false h = let z : v ≡ u = cc in (cc, λ f' q'. rw z)

pub leaf_refused : (f : List ℕ) (o : Out Leaf) (n : Refusal) (r : List ℕ) → leaf_found f o ≡ refused n r → OfFrame n × (f ≡ r)
leaf_refused f o n r h = go o h
  where
    all : (v : Leaf) (u : List ℕ) (a b : Bool) → cond a (refused BadFrame f) (cond b (refused NotText f) (framed v u)) ≡ refused n r → OfFrame n × (f ≡ r)
    all v u true b h = carried BadFrame tt h
    all v u false true h = carried NotText tt h
    all v u false false h = never (sym h)

    go : (o : Out Leaf) → leaf_found f o ≡ refused n r → OfFrame n × (f ≡ r)
    go (fault k) h = carried BadFrame tt h
    go (got v fs u) h = all v u (has Long fs || has Low fs) (has NotUtf8 fs) h

-- ---- a payload

module _ {A : Type 0} (p : FrameReader A) (loc : (names : Option (List (List ℕ))) → LocalFrames (p names)) (k : Kind) where
  abbrev PayloadGot : Payload → List ℕ → Node A → List ℕ → Type 0
  PayloadGot how s t r = (v : List ℕ) × (s ≡ v ++ r) × ((f' q : List ℕ) → frame_payload p f' how (v ++ q) ≡ framed t q)

  pub payload_got : (f : List ℕ) (how : Payload) (s : List ℕ) {t : Node A} {r : List ℕ} → payload k ≡ how
      → frame_payload p f how s ≡ framed t r → PayloadGot how s t r
  payload_got f (leaf g) s {t} {r} i h = next_got (leaf_found f (g s)) _ h λ v q e j. go (g s) refl v q e j
    where
      go : (o : Out Leaf) → g s ≡ o → (v : Leaf) (q : List ℕ) → leaf_found f o ≡ framed v q → framed (atom v) q ≡ framed t r → PayloadGot (leaf g) s t r
      go (fault x) e v q l j = never l
      go (got u fs q') e v q l j =
          let w = leaf_local k g i s u fs q' e in
          let y = leaf_found_law f u fs q' l in
          let z : q ≡ r = cc in
          let a : atom v ≡ t = cc in
          (w.0, w.1 ∙ ap (λ t. w.0 ++ t) (y.0 ∙ z), λ f' q''. rw (w.2 q'', y.1 f' q'', a))
  payload_got f fields s {t} {r} i h = next_got (until_close (λ used. p (some used)) (length s) [] s) _ h λ xs q e j.
      let w = until_got (λ used. p (some used)) (λ used. loc (some used)) (length s) [] s xs q e in
      let z : q ≡ r = cc in
      let a : object xs ≡ t = cc in
      (w.0, w.1 ∙ ap (λ t. w.0 ++ t) z, λ f' q'. rw (w.3 (length (w.0 ++ q')) q' (omega (arith, length-append w.0 q')), a))
  payload_got f shared_fields s i h = never h
  payload_got f items s {t} {r} i h = next_got (until_close (λ used. p none) (length s) [] s) _ h λ xs q e j.
      let w = until_got (λ used. p none) (λ used. loc none) (length s) [] s xs q e in
      let z : q ≡ r = cc in
      let a : array (map (λ x. x.1) xs) ≡ t = cc in
      (w.0, w.1 ∙ ap (λ t. w.0 ++ t) z, λ f' q'. rw (w.3 (length (w.0 ++ q')) q' (omega (arith, length-append w.0 q')), a))
  payload_got f shared_items s i h = never h

  module _ (ref : (names : Option (List (List ℕ))) → Judges (p names)) where
    -- at the frame itself, because the list ends, or at a frame in a container
    abbrev PayloadRefused : List ℕ → Payload → List ℕ → Refusal → List ℕ → Type 0
    PayloadRefused f how s n r = (OfFrame n × (f ≡ r)) ⊎ (((n ≡ ListEnds) × (r ≡ []))
        ⊎ (OfFrame n × ((w : List ℕ) × (s ≡ w ++ r) × (1 ≤ length r) × ((f' : List ℕ) → frame_payload p f' how w ≡ refused ListEnds []))))

    pub payload_refused : (f : List ℕ) (how : Payload) (s : List ℕ) (n : Refusal) (r : List ℕ) → frame_payload p f how s ≡ refused n r
        → PayloadRefused f how s n r
    payload_refused f (leaf g) s n r h = next_refused (leaf_found f (g s)) _ h (λ e. inl (leaf_refused f (g s) n r e)) (λ v q e j. never (sym j))
    payload_refused f fields s n r h = next_refused (until_close (λ used. p (some used)) (length s) [] s) _ h
        (λ e. inr (at (until_refused (λ used. p (some used)) (λ used. loc (some used)) (λ used. ref (some used)) (length s) [] s n r e)))
        (λ xs q e j. never (sym j))
      where
        at : ((n ≡ ListEnds) × (r ≡ []))
            ⊎ (OfFrame n × ((w : List ℕ) × (s ≡ w ++ r) × (1 ≤ length r) × ((k : ℕ) → until_close (λ used. p (some used)) k [] w ≡ refused ListEnds [])))
            → ((n ≡ ListEnds) × (r ≡ []))
            ⊎ (OfFrame n × ((w : List ℕ) × (s ≡ w ++ r) × (1 ≤ length r) × ((f' : List ℕ) → frame_payload p f' fields w ≡ refused ListEnds [])))
        at (inl i) = inl i
        at (inr i) = inr (i.0, (i.1.0, i.1.1, i.1.2, λ f'. rw (i.1.3 (length i.1.0))))
    payload_refused f shared_fields s n r h = inl (carried BadFrame tt h)
    payload_refused f items s n r h = next_refused (until_close (λ used. p none) (length s) [] s) _ h
        (λ e. inr (at (until_refused (λ used. p none) (λ used. loc none) (λ used. ref none) (length s) [] s n r e))) (λ xs q e j. never (sym j))
      where
        at : ((n ≡ ListEnds) × (r ≡ []))
            ⊎ (OfFrame n × ((w : List ℕ) × (s ≡ w ++ r) × (1 ≤ length r) × ((k : ℕ) → until_close (λ used. p none) k [] w ≡ refused ListEnds [])))
            → ((n ≡ ListEnds) × (r ≡ []))
            ⊎ (OfFrame n × ((w : List ℕ) × (s ≡ w ++ r) × (1 ≤ length r) × ((f' : List ℕ) → frame_payload p f' items w ≡ refused ListEnds [])))
        at (inl i) = inl i
        at (inr i) = inr (i.0, (i.1.0, i.1.1, i.1.2, λ f'. rw (i.1.3 (length i.1.0))))
    payload_refused f shared_items s n r h = inl (carried BadFrame tt h)
