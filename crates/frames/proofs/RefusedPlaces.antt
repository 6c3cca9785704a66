-- Where a refused list is refused: at its end, at the first byte of its first faulty frame, or at 0. What `Placed` says, specs/Refused.antt has.
use Rattle.std.specs.Prelude.{Ok}
use Prim.Native.Nat.{ℕ, ◌+◌, ◌-◌, ◌≤◌}
use native.Mathlib.Omega.{arith}
use mathlib.Core.Path.{◌≡◌, refl, sym, ap, ◌∙◌, subst}
use mathlib.Core.Logic.{◌⊎◌, inl, inr}
use mathlib.Core.Bool.{Bool, true, false, ◌||◌, cond}
use mathlib.Core.Option.{none}
use mathlib.Core.List.{List, [], ◌∷◌, ◌++◌}
use lib.ListN.{length, take, length-append}
use lib.Seq.{take_at}
use lib.Dec.{eqb, ltb}
use borrow.Author.Tests.{ltb-false, le-ltb}
use Rattle.number.proofs.Clash.{clash}
use Rattle.frames.specs.declared.Refusal.{Refusal}
use Rattle.frames.specs.declared.Refusal.TheVariants.{ListEnds, BadFrame, EmptyName, NameUsed, NotText, TooDeep, NoneOpen, Complete, ListTooLong}
use Rattle.frames.specs.declared.Refusal.TheVariants.{FewWorkNumbers, EncodingTooLong}
use Rattle.format.specs.Limits.{depth_limit, length_limit}
use Rattle.format.specs.Tree.{Tree}
use Rattle.format.specs.Encoding.{encoding, sizes_of}
use Rattle.frames.specs.WriteList.{Frames, refused, framed, next, read_frames, only, read_list}
use Rattle.frames.specs.Writer.{refuse, wrote, outcome, outcome_after, result_of, written, refused_at}
use Rattle.format.proofs.Lists.{append_nil}
use Rattle.frames.specs.Refused.{AtFrame, BehindTop, Placed}
use Rattle.frames.proofs.FrontLaws.{never}
use Rattle.frames.proofs.FramesLocal.{next_refused, OfFrame, Verdict}
use Rattle.frames.proofs.RefusedLaws.{refused_same}
use Rattle.frames.proofs.Refusals.{frames_local, frames_judge}

-- ---- the whole list

-- what is left of it at a refusal, and what stands before
abbrev Before : (d : ℕ) → Refusal → List ℕ → Type 0
Before d ListEnds w = ⊥
Before d BadFrame w = read_list d w ≡ refused ListEnds []
Before d EmptyName w = read_list d w ≡ refused ListEnds []
Before d NameUsed w = read_list d w ≡ refused ListEnds []
Before d NotText w = read_list d w ≡ refused ListEnds []
Before d TooDeep w = read_list d w ≡ refused ListEnds []
Before d NoneOpen w = read_list d w ≡ refused ListEnds []
Before d Complete w = (t : Tree d) × (read_list d w ≡ framed t [])
Before d ListTooLong w = ⊥
Before d FewWorkNumbers w = ⊥
Before d EncodingTooLong w = ⊥

before_frame : (d : ℕ) (n : Refusal) (w : List ℕ) → OfFrame n → read_list d w ≡ refused ListEnds [] → Before d n w
before_frame d ListEnds w o e = o
before_frame d BadFrame w o e = e
before_frame d EmptyName w o e = e
before_frame d NameUsed w o e = e
before_frame d NotText w o e = e
before_frame d TooDeep w o e = e
before_frame d NoneOpen w o e = e
before_frame d Complete w o e = absurd o
before_frame d ListTooLong w o e = o
before_frame d FewWorkNumbers w o e = o
before_frame d EncodingTooLong w o e = o

abbrev Left : (d : ℕ) → List ℕ → Refusal → List ℕ → Type 0
Left d list n r = ((n ≡ ListEnds) × (r ≡ [])) ⊎ ((w : List ℕ) × (list ≡ w ++ r) × (1 ≤ length r) × Before d n w)

list_left : (d : ℕ) (list : List ℕ) (n : Refusal) (r : List ℕ) → read_list d list ≡ refused n r → Left d list n r
unfolding read_list
list_left d [] n r h = inl (cc, cc)
list_left d (b ∷ s) n r h = go (eqb b 0) refl h
  where
    cut : (w : List ℕ) → b ∷ s ≡ w ++ r → eqb b 0 ≡ false → (1 ≤ length w → read_frames d none w ≡ refused ListEnds []) → read_list d w ≡ refused ListEnds []
    cut [] e z f = refl
    cut (a ∷ w) e z f =
        let y : eqb a 0 ≡ false = (let t : b ≡ a = cc in rw t at z) in
        rw (y, f (omega arith))

    whole : (x : List ℕ × Tree d) (w q : List ℕ) → b ∷ s ≡ w ++ q → 1 ≤ length w → eqb b 0 ≡ false → read_frames d none (w ++ []) ≡ framed x []
        → read_list d w ≡ framed x.1 []
    whole x [] q e l z f = absurd (omega arith)
    whole x (a ∷ w) q e l z f =
        let y : eqb a 0 ≡ false = (let t : b ≡ a = cc in rw t at z) in
        rw (y, ← append_nil (a ∷ w), f)

    at : eqb b 0 ≡ false → Verdict (read_frames d none) (b ∷ s) n r → Left d (b ∷ s) n r
    at z (inl i) = inl i
    at z (inr i) = inr (i.before, i.splits, i.some_left, before_frame d n i.before i.of_frame (cut i.before i.splits z i.ends))

    last : eqb b 0 ≡ false → (x : List ℕ × Tree d) (q : List ℕ) → read_frames d none (b ∷ s) ≡ framed x q → only x q ≡ refused n r → Left d (b ∷ s) n r
    last z x [] i h = never (sym h)
    last z x (c ∷ q) i h =
        let f = frames_local d none (b ∷ s) x (c ∷ q) i in
        let y : Complete ≡ n = cc in
        let u : c ∷ q ≡ r = cc in
        inr (
          f.0,
          f.1 ∙ ap (λ t. f.0 ++ t) u,
          rw (← u) (omega arith),
          subst (λ m. Before d m f.0) y (x.1, whole x f.0 (c ∷ q) f.1 f.2 z (f.3 [])),
        )

    go : (t : Bool) → eqb b 0 ≡ t → cond t (refused NoneOpen (b ∷ s)) (next (read_frames d none (b ∷ s)) only) ≡ refused n r → Left d (b ∷ s) n r
    go true z h =
        let y : NoneOpen ≡ n = cc in
        let u : b ∷ s ≡ r = cc in
        inr ([], u, rw (← u) (omega arith), subst (λ m. Before d m []) y refl)
    go false z h = next_refused (read_frames d none (b ∷ s)) only h (λ i. at z (frames_judge d none (b ∷ s) n r (omega arith) i)) (last z)

-- ---- and written

no_refusal : {X : Type 0} {r : Refusal} {p n : ℕ} → Ok n ≡ refused_at r p → X
no_refusal h = clash cc

module _ (list output work : List ℕ) where
  cut_answer : (w : List ℕ) → length w ≤ length_limit → read_list depth_limit w ≡ refused ListEnds []
      → (written w output work).answer ≡ refused_at ListEnds (length w)
  unfolding written outcome
  cut_answer w l e =
      let z : length w - 0 ≡ length w = omega arith in
      rw (le-ltb length_limit (length w) l, e, z)

  at_frame : (p : ℕ) (w r : List ℕ) → length list ≤ length_limit → list ≡ w ++ r → 1 ≤ length r → length w ≡ p → read_list depth_limit w ≡ refused ListEnds []
      → AtFrame p list output work
  at_frame p w r m e l i f =
      let n : length list ≡ length w + length r = ap length e ∙ length-append w r in
      let t : take p list ≡ w = rw e (take_at w r p i) in
      (omega arith, rw t (cut_answer w (omega arith) f ∙ ap (refused_at ListEnds) i))

  behind_top : (p : ℕ) (w r : List ℕ) → list ≡ w ++ r → 1 ≤ length r → length w ≡ p
      → (t : Tree depth_limit) × (read_list depth_limit w ≡ framed t []) → BehindTop p list
  behind_top p w r e l i f =
      let n : length list ≡ length w + length r = ap length e ∙ length-append w r in
      let t : take p list ≡ w = rw e (take_at w r p i) in
      (omega arith, rw t f)

  placed_left : (n : Refusal) (r : List ℕ) → length list ≤ length_limit → Left depth_limit list n r → Placed n (length list - length r) list output work
  placed_left n r m (inl i) =
      subst (λ k. Placed k (length list - length r) list output work) (sym i.0) (let z : length r ≡ 0 = ap length i.1 in omega arith)
  placed_left n r m (inr i) = by n i.3
    where
      w : List ℕ
      w = i.0

      n_is : length w ≡ length list - length r
      n_is = let z : length list ≡ length w + length r = ap length i.1 ∙ length-append w r in omega arith

      frame : read_list depth_limit w ≡ refused ListEnds [] → AtFrame (length list - length r) list output work
      frame = at_frame (length list - length r) w r m i.1 i.2 n_is

      by : (n : Refusal) → Before depth_limit n w → Placed n (length list - length r) list output work
      by ListEnds f = absurd f
      by BadFrame f = frame f
      by EmptyName f = frame f
      by NameUsed f = frame f
      by NotText f = frame f
      by TooDeep f = frame f
      by NoneOpen f = frame f
      by Complete f = behind_top (length list - length r) w r i.1 i.2 n_is f
      by ListTooLong f = absurd f
      by FewWorkNumbers f = absurd f
      by EncodingTooLong f = absurd f

  -- a refusal and its place, as they are answered
  told : (n : Refusal) (q : ℕ) (r : Refusal) (p : ℕ) → refused_at {A = ℕ} n q ≡ refused_at r p → Placed n q list output work → Placed r p list output work
  told n q r p h i =
      let e = refused_same h in
      subst (λ m. Placed m p list output work) e.0 (subst (λ m. Placed n m list output work) e.1 i)

  pub refusal_placed : (r : Refusal) (p : ℕ) → (written list output work).answer ≡ refused_at r p → Placed r p list output work
  unfolding written outcome
  refusal_placed r p h = short (ltb length_limit (length list)) refl h
    where
      fits : (few small : Bool) (e z : List ℕ) → (result_of (cond few (refuse FewWorkNumbers 0) (cond small (refuse EncodingTooLong 0) (wrote e z))) output
          work).answer ≡ refused_at r p → Placed r p list output work
      fits true small e z h = told FewWorkNumbers 0 r p h refl
      fits false true e z h = told EncodingTooLong 0 r p h refl
      fits false false e z h = no_refusal h

      read : (f : Frames (Tree depth_limit)) → read_list depth_limit list ≡ f → length list ≤ length_limit
          → (result_of (outcome_after depth_limit (length output) (length work) list f) output work).answer ≡ refused_at r p → Placed r p list output work
      read (refused n q) e l h = told n (length list - length q) r p h (placed_left n q l (list_left depth_limit list n q e))
      read (framed t q) e l h =
          fits (ltb (length work) (length (sizes_of depth_limit t))) (ltb (length output) (length (encoding depth_limit t))
          || ltb length_limit (length (encoding depth_limit t))) (encoding depth_limit t) (sizes_of depth_limit t) h

      short : (b : Bool) → ltb length_limit (length list) ≡ b
          → (result_of (cond b (refuse ListTooLong 0) (outcome_after depth_limit (length output) (length work) list (read_list depth_limit list))) output
          work).answer ≡ refused_at r p → Placed r p list output work
      short true e h = told ListTooLong 0 r p h refl
      short false e h = read (read_list depth_limit list) refl (ltb-false length_limit (length list) e) h
