-- The first pass, a frame and its payload: what the code knows at each return.
use Rattle.std.specs.Prelude.{Result, Ok, Err}
use Prim.Native.Nat.{ℕ, zero, suc, ◌+◌, ◌-◌, ◌≤◌, ◌<◌}
use native.Mathlib.Omega.{arith}
use native.Mathlib.Nat.{add-zero}
use mathlib.Core.Path.{◌≡◌, refl, sym, ap, ◌∙◌}
use mathlib.Core.Bool.{Bool, true, false, ◌||◌, cond}
use mathlib.Core.Option.{none}
use mathlib.Core.List.{List, [], ◌∷◌}
use lib.ListN.{length, drop, length-append, length-drop}
use Rattle.number.proofs.Clash.{clash}
use Rattle.number.specs.BigEndian.{Bytes}
use Rattle.format.specs.declared.Kind.{Kind}
use Rattle.format.specs.declared.Kind.TheVariants.{Object, Array}
use Rattle.format.specs.declared.Flaw.TheVariants.{Long, Low, NotUtf8}
use Rattle.format.specs.Kinds.{id}
use Rattle.format.specs.Mask.{has}
use Rattle.format.specs.Parse.{Out, fault, got}
use Rattle.format.specs.Payload.{leaf, payload}
use Rattle.format.specs.Tree.{Leaf, atom, Tree}
use Rattle.frames.specs.declared.Refusal.{Refusal}
use Rattle.frames.specs.declared.Refusal.TheVariants.{TooDeep, BadFrame, NotText}
use Rattle.frames.specs.declared.Refused.{Refused}
use Rattle.frames.specs.WriteList.{Frames, refused, framed, next, is_writable, leaf_found, frame_payload, frame, read_frames}
use Rattle.frames.specs.Container.{name_part}
use Rattle.frames.specs.FramePieces.{mode_of, frame_front, IsLeaf}
use Rattle.frames.specs.Writer.{refused_at}
use Rattle.frames.proofs.LeafLaws.{leaf_of_law}
use Rattle.frames.proofs.FrontLaws.{front_got, with_name, frame_front_law, front_rests, array_payload, leaf_kind_law, object_payload}
use Rattle.frames.proofs.PlaceLaws.{bytes_drop, place, tail_at}
use Rattle.frames.proofs.Used.{leaf_short}
use Rattle.twins.specs.Own.{own_name}
use Rattle.used.proofs.ReadLaws.{front_none, deep_none}
use Rattle.frame.specs.declared.Frame.{Frame}
use Rattle.frame.specs.declared.LeafFrame.{LeafFrame}
use Rattle.frame.specs.Pieces.{leaf_met, leaf_frame_at}
use Rattle.frame.specs.Front.{front_met, front_by, front_at}
use Rattle.measure.specs.Passes.{leaf_measured, LeafSmall, PayloadBy, FieldBy, FieldAt}
use Rattle.measure.specs.Passes.{PayloadAt, ContentsAt, Lent}
use Rattle.measure.proofs.MadeLaws.{frame_same}
use Rattle.measure.proofs.SmallLaws.{Plain}
use Rattle.settle.specs.declared.Measured.{Measured}

-- ---- a frame up to its payload

module _ (d : ℕ) (s : List ℕ) (at : ℕ) (named : Bool) (l : at < length s) (f : Result Frame Refusal) (a : f ≡ front_at d s at named) where
  -- it is refused, and has no right name
  pub record Barred (n : Refusal) : Type 0 where
    pub whole : read_frames d (mode_of named []) (drop at s) ≡ refused n (drop at s)
    pub unnamed : named ≡ true → own_name d (drop at s) ≡ none

  pub barred : (n : Refusal) → f ≡ Err n → Barred n
  unfolding front_at read_frames
  barred n i = let z = go d (sym i ∙ a) in record { whole = z.0; unnamed = z.1 }
    where
      full : 0 < length (drop at s)
      full = rw (length-drop at s) (omega arith)

      by : (e : ℕ) (o : Frames (List ℕ × Kind)) → frame_front (mode_of named []) (drop at s) ≡ o → Err n ≡ front_met (length s) o
          → (read_frames (suc e) (mode_of named []) (drop at s) ≡ refused n (drop at s)) × (named ≡ true → own_name (suc e) (drop at s) ≡ none)
      by e (framed x q) j h = clash cc
      by e (refused m q) j h =
          let v : n ≡ m = cc in
          let t : q ≡ drop at s = rw j at (front_rests (mode_of named []) (drop at s) full) in
          let y : frame (read_frames e) (mode_of named []) (drop at s) ≡ refused m q = frame_front_law (read_frames e) (mode_of named []) (drop at s) full ∙ (rw j) in
          (y ∙ (rw (v, t)), λ b. front_none (suc e) (drop at s) m q (rw b at j))

      go : (d : ℕ) → Err n ≡ front_by d (length s) (frame_front (mode_of named []) (drop at s))
          → (read_frames d (mode_of named []) (drop at s) ≡ refused n (drop at s)) × (named ≡ true → own_name d (drop at s) ≡ none)
      go zero h = let v : n ≡ TooDeep = cc in (rw v, λ b. deep_none (drop at s))
      go (suc e) h = by e (frame_front (mode_of named []) (drop at s)) refl h

  -- it is read up to its payload
  module _ (bytes : Bytes s) (fr : Frame) (i : f ≡ Ok fr) where
    pub record Got : Type 0 where
      pub level : ℕ
      pub deep : d ≡ suc level
      pub name : List ℕ
      pub left : List ℕ
      pub was : frame_front (mode_of named []) (drop at s) ≡ framed (name, fr.kind) left
      pub begin_is : fr.begin ≡ length s - length left - length name
      pub start_is : fr.start ≡ length s - length left
      pub length_is : fr.start ≡ at + 1 + length (name_part named name)
      pub inside : fr.start ≤ length s
      pub tail : drop fr.start s ≡ left
      pub good : is_writable (payload fr.kind) ≡ true

    pub got_frame : Got
    unfolding front_at
    got_frame = go d refl (sym i ∙ a)
      where
        by : (e : ℕ) → d ≡ suc e → (o : Frames (List ℕ × Kind)) → frame_front (mode_of named []) (drop at s) ≡ o
            → Ok fr ≡ front_met (length s) o → Got
        by e y (refused n r) j h = clash cc
        by e y (framed x q) j h =
            let e₁ = frame_same h in
            let k₁ : x.1 ≡ fr.kind = sym e₁.0 in
            let z : frame_front (mode_of named []) (drop at s) ≡ framed (x.0, fr.kind) q = j ∙ ap (λ (y : Kind). framed (x.0, y) q) k₁ in
            let g = front_got named [] (drop at s) (bytes_drop s at bytes) z in
            let t = tail_at s at (id fr.kind ∷ name_part named x.0) q (omega arith) g.is in
            let b : fr.begin ≡ length s - length q - length x.0 = e₁.1 in
            let n : fr.start ≡ length s - length q = e₁.2 in
            let u : fr.start ≡ at + suc (length (name_part named x.0)) = n ∙ t.0 in
            record {
              level = e;
              deep = y;
              name = x.0;
              left = q;
              was = z;
              begin_is = b;
              start_is = n;
              length_is = omega arith;
              inside = omega (arith, t.1);
              tail = rw u t.2;
              good = g.good;
            }

        go : (e : ℕ) → d ≡ e → Ok fr ≡ front_by e (length s) (frame_front (mode_of named []) (drop at s)) → Got
        go zero y h = clash cc
        go (suc e) y h = by e y (frame_front (mode_of named []) (drop at s)) refl h

    pub frame_deep : 1 ≤ d
    frame_deep = let g = got_frame in omega (arith, g.deep)

    pub frame_start : at < fr.start
    frame_start = let g = got_frame in omega (arith, g.length_is)

    pub frame_inside : fr.start ≤ length s
    frame_inside = got_frame.inside

    pub frame_good : is_writable (payload fr.kind) ≡ true
    frame_good = got_frame.good

    -- with its payload it is the frame
    pub field_of : (k : ℕ) (w w' : List ℕ) (m : Result Measured Refused) → PayloadAt (d - 1) s at fr.start fr.kind k w w' m → FieldAt d s at named k w w' m
    unfolding read_frames
    field_of k w w' m y =
        let g = got_frame in
        let z : d - 1 ≡ g.level = omega (arith, g.deep) in
        let b : fr.start - (at + 1) ≡ length (name_part named g.name) = omega (arith, g.length_is) in
        let o : read_frames (suc g.level) (mode_of named []) (drop at s) ≡ with_name g.name
        (frame_payload (read_frames g.level) (drop at s) (payload fr.kind) g.left) =
        frame_front_law (read_frames g.level) (mode_of named []) (drop at s) (rw (length-drop at s) (omega arith)) ∙ (rw g.was) in
        rw (g.deep, o) (by g.level g.name (frame_payload (read_frames g.level) (drop at s) (payload fr.kind) g.left) (rw (z, g.tail, b) at y))
      where
        by : (e : ℕ) (n : List ℕ) (o : Frames (Tree (suc e))) → PayloadBy (suc e) (length s) (length (name_part named n)) k w w' m o
            → FieldBy (suc e) (length s) named k w w' m (with_name n o)
        by e n (refused j r) h = record { answer = h.answer; work = h.work }
        by e n (framed t r) h = record { answer = h.answer; work = h.work }

  pub field_refused : (k : ℕ) (w : List ℕ) (n : Refusal) → f ≡ Err n → FieldAt d s at named k w w (refused_at n at)
  field_refused k w n i = let b = barred n i in rw b.whole (record { answer = ap (refused_at n) (sym (place s at (omega arith))); work = refl })

-- ---- a payload

-- what the code asks for it
abbrev Asked : List ℕ → ℕ → ℕ → Kind → ℕ → Type 0
Asked s at start kind k = (at < start) × (start ≤ length s) × (is_writable (payload kind) ≡ true) × Lent s at k

module _ (d : ℕ) (s : List ℕ) (at start : ℕ) (kind : Kind) (k : ℕ) where
  module _ (w w' : List ℕ) (m : Result Measured Refused) where
    pub payload_object : kind ≡ Object → ContentsAt d s start (start - (at + 1)) true k w w' m → PayloadAt d s at start kind k w w' m
    payload_object e c = rw (object_payload (read_frames d) (drop at s) kind (drop start s) e) c

    pub payload_array : kind ≡ Array → ContentsAt d s start (start - (at + 1)) false k w w' m → PayloadAt d s at start kind k w w' m
    payload_array e c = rw (array_payload (read_frames d) (drop at s) kind (drop start s) e) c

  module _ (asked : Asked s at start kind k) (x : Result LeafFrame Refusal) (ex : x ≡ leaf_frame_at kind s start) (plain : Plain kind)
      (before : ℕ) (eb : before ≡ start - (at + 1)) where
    lt : Lent s at k
    lt = asked.3

    il : IsLeaf (payload kind)
    il = leaf_kind_law kind asked.2 plain.object plain.array

    leaf_met_law : (p : List ℕ → Out Leaf) → payload kind ≡ leaf p → x ≡ leaf_met (length s) (leaf_found (drop start s) (p (drop start s)))
    unfolding leaf_frame_at
    leaf_met_law p ep = ex ∙ (rw ep)

    pub leaf_sum : LeafSmall x before
    leaf_sum = leaf_of_law kind il λ p ep. go (leaf_found (drop start s) (p (drop start s))) p ep refl (leaf_met_law p ep)
      where
        go : (o : Frames Leaf) (p : List ℕ → Out Leaf) → payload kind ≡ leaf p → leaf_found (drop start s) (p (drop start s)) ≡ o → x ≡ leaf_met (length s) o
            → LeafSmall x before
        go (refused n r) p ep e h = rw h (omega arith)
        go (framed v r) p ep e h =
            let z = leaf_short kind p ep (drop start s) (drop start s) (bytes_drop s start lt.bytes) e in
            let n : length (drop start s) ≡ length z.0 + length r = ap length z.1 ∙ length-append z.0 r in
            rw h (omega (arith, z.2, lt.short, length-drop start s, asked.0, asked.1))

    pub leaf_is : (w : List ℕ) (m : Result Measured Refused) → m ≡ leaf_measured at before k x → PayloadAt d s at start kind k w w m
    leaf_is w m em = leaf_of_law kind il λ p ep. rw (ep, ← eb) (cases (p (drop start s)) (em ∙ ap (leaf_measured at before k) (leaf_met_law p ep)))
      where
        By : Frames Leaf → Type 0
        By o = PayloadBy (suc d) (length s) before k w w m (next o λ v u. framed (atom v) u)

        place_is : length s - length (drop at s) ≡ at
        place_is = place s at (omega (arith, asked.0, asked.1))

        same : (a b c : Bool) (v : Leaf) (r : List ℕ)
            → m ≡ leaf_measured at before k (leaf_met (length s) (cond (a || b) (refused BadFrame (drop start s))
            (cond c (refused NotText (drop start s)) (framed v r))))
            → By (cond (a || b) (refused BadFrame (drop at s)) (cond c (refused NotText (drop at s)) (framed v r)))
        same true b c v r h = record { answer = h ∙ rw place_is; work = refl }
        same false true c v r h = record { answer = h ∙ rw place_is; work = refl }
        same false false true v r h = record { answer = h ∙ rw place_is; work = refl }
        same false false false v r h = record { answer = h ∙ rw (add-zero k); work = refl }

        cases : (o : Out Leaf) → m ≡ leaf_measured at before k (leaf_met (length s) (leaf_found (drop start s) o)) → By (leaf_found (drop at s) o)
        cases (fault j) h = record { answer = h ∙ rw place_is; work = refl }
        cases (got v fs r) h = same (has Long fs) (has Low fs) (has NotUtf8 fs) v r h

-- ---- the top field

pub ruleset top_laws = (frame_deep, frame_start, frame_inside, frame_good)
