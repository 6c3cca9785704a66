-- What follows frames that are not faulty changes nothing in them: a list that is refused only because it ends is, with whatever behind it, refused no
-- earlier; and a list that describes a tree is refused with 8 where anything follows (document 01, "The write list").
use Prim.Native.Nat.{ℕ, ◌-◌, ◌≤◌}
use native.Mathlib.Omega.{arith}
use mathlib.Core.Path.{◌≡◌, refl, ap, ◌∙◌}
use mathlib.Core.Bool.{Bool, true, false, ◌||◌, cond}
use mathlib.Core.List.{List, [], ◌++◌}
use lib.ListN.{length, length-append}
use lib.Dec.{ltb}
use borrow.Author.Tests.{le-ltb}
use Rattle.number.proofs.Clash.{clash}
use Rattle.frames.specs.declared.Refusal.{Refusal}
use Rattle.frames.specs.declared.Refusal.TheVariants.{ListEnds, Complete, ListTooLong, FewWorkNumbers, EncodingTooLong}
use Rattle.format.specs.Limits.{depth_limit, length_limit}
use Rattle.format.specs.Tree.{Tree}
use Rattle.format.specs.Encoding.{encoding, sizes_of}
use Rattle.frames.specs.WriteList.{Frames, refused, framed, read_list}
use Rattle.frames.specs.Writer.{refusal_number, refuse, wrote, outcome, outcome_after, result_of, written, refused_at}
use Rattle.frames.proofs.RefusedLaws.{refused_same}
use Rattle.frames.proofs.OpenLists.{left_of, list_open, list_complete}

module _ (output work : List ℕ) where
  -- a list that is refused with 1 was read so
  ends_read : (list : List ℕ) (p : ℕ) → (written list output work).answer ≡ refused_at ListEnds p → (r : List ℕ) × (read_list depth_limit list ≡ refused ListEnds r)
  unfolding written outcome
  ends_read list p h = short (ltb length_limit (length list)) h
    where
      fits : (few small : Bool) (e z : List ℕ)
          → (result_of (cond few (refuse FewWorkNumbers 0) (cond small (refuse EncodingTooLong 0) (wrote e z))) output work).answer ≡ refused_at ListEnds p → ⊥
      fits true small e z h = let i : FewWorkNumbers ≡ ListEnds = (refused_same h).0 in clash cc
      fits false true e z h = let i : EncodingTooLong ≡ ListEnds = (refused_same h).0 in clash cc
      fits false false e z h = clash cc

      read : (f : Frames (Tree depth_limit)) → read_list depth_limit list ≡ f
          → (result_of (outcome_after depth_limit (length output) (length work) list f) output work).answer ≡ refused_at ListEnds p
          → (r : List ℕ) × (read_list depth_limit list ≡ refused ListEnds r)
      read (refused n q) e h = let z : n ≡ ListEnds = (refused_same h).0 in (q, e ∙ ap (λ k. refused k q) z)
      read (framed t q) e h = absurd (fits (ltb (length work) (length (sizes_of depth_limit t)))
          (ltb (length output) (length (encoding depth_limit t)) || ltb length_limit (length (encoding depth_limit t))) (encoding depth_limit t)
          (sizes_of depth_limit t) h)

      short : (b : Bool) → (result_of (cond b (refuse ListTooLong 0) (outcome_after depth_limit (length output) (length work) list (read_list depth_limit list)))
          output work).answer ≡ refused_at ListEnds p
          → (r : List ℕ) × (read_list depth_limit list ≡ refused ListEnds r)
      short true h = let i : ListTooLong ≡ ListEnds = (refused_same h).0 in clash cc
      short false h = read (read_list depth_limit list) refl h

  -- If a list is refused only because it ends, then with whatever behind it no frame of it is refused: by 1 to 8 it is refused behind it, if at all
  pub refused_no_earlier : (list more : List ℕ) → (written list output work).answer ≡ refused_at ListEnds (length list)
      → (r : Refusal) (p : ℕ) → (written (list ++ more) output work).answer ≡ refused_at r p → refusal_number r ≤ 8 → length list ≤ p
  unfolding written outcome
  refused_no_earlier list more e r p h l =
      let i = ends_read list (length list) e in
      short (ltb length_limit (length (list ++ more))) (list_open depth_limit list i.0 i.1 more) h
    where
      other : (n : Refusal) (q : ℕ) → 9 ≤ refusal_number n → refused_at {A = ℕ} n q ≡ refused_at r p → length list ≤ p
      other n q k h =
          let z : n ≡ r = (refused_same h).0 in
          absurd (let y : refusal_number n ≡ refusal_number r = ap refusal_number z in omega arith)

      fits : (few small : Bool) (e z : List ℕ) → (result_of
          (cond few (refuse FewWorkNumbers 0) (cond small (refuse EncodingTooLong 0) (wrote e z))) output work).answer ≡ refused_at r p → length list ≤ p
      fits true small e z h = other FewWorkNumbers 0 (omega arith) h
      fits false true e z h = other EncodingTooLong 0 (omega arith) h
      fits false false e z h = clash cc

      read : (f : Frames (Tree depth_limit)) → left_of f ≤ length more
          → (result_of (outcome_after depth_limit (length output) (length work) (list ++ more) f) output work).answer ≡ refused_at r p → length list ≤ p
      read (refused n q) k h =
          let z : length (list ++ more) - length q ≡ p = (refused_same h).1 in
          omega (arith, length-append list more)
      read (framed t q) k h = fits (ltb (length work) (length (sizes_of depth_limit t)))
          (ltb (length output) (length (encoding depth_limit t)) || ltb length_limit (length (encoding depth_limit t)))
          (encoding depth_limit t) (sizes_of depth_limit t) h

      short : (b : Bool) → left_of (read_list depth_limit (list ++ more)) ≤ length more
          → (result_of (cond b (refuse ListTooLong 0) (outcome_after depth_limit (length output) (length work) (list ++ more)
          (read_list depth_limit (list ++ more)))) output work).answer ≡ refused_at r p → length list ≤ p
      short true k h = other ListTooLong 0 (omega arith) h
      short false k h = read (read_list depth_limit (list ++ more)) k h

  -- A list that describes a tree is refused with 8 at its end where anything follows it
  pub refused_behind_top : (list more : List ℕ) (t : Tree depth_limit) → read_list depth_limit list ≡ framed t [] → 1 ≤ length more
      → length (list ++ more) ≤ length_limit → (written (list ++ more) output work).answer ≡ refused_at Complete (length list)
  unfolding written outcome
  refused_behind_top list more t e k l =
      let z : length (list ++ more) - length more ≡ length list = omega (arith, length-append list more) in
      rw (le-ltb length_limit (length (list ++ more)) l, list_complete depth_limit list t e more k, z)
