-- What an answer of the writer means: a success is the encoding of the tree that the list describes, and a refusal leaves nothing behind.
use Rattle.std.specs.Prelude.{Ok}
use Prim.Native.Nat.{ℕ, ◌-◌, ◌≤◌}
use mathlib.Core.Path.{◌≡◌, refl, sym, ap, ◌∙◌}
use mathlib.Core.Bool.{Bool, true, false, ◌||◌, cond}
use mathlib.Core.Option.{none, some}
use mathlib.Core.List.{List, [], ◌∷◌, ◌++◌}
use lib.ListN.{length, drop}
use lib.Dec.{eqb, ltb}
use borrow.Author.Tests.{ltb-false}
use Rattle.number.proofs.Clash.{clash}
use Rattle.number.specs.BigEndian.{Bytes}
use Rattle.frames.specs.declared.Refusal.{Refusal}
use Rattle.frames.specs.declared.Refusal.TheVariants.{NoneOpen, ListTooLong, FewWorkNumbers, EncodingTooLong}
use Rattle.format.specs.Limits.{depth_limit, length_limit}
use Rattle.format.specs.Tree.{Tree}
use Rattle.format.specs.Encoding.{encoding, sizes_of, WithinLimits}
use Rattle.format.specs.Mask.{mask, strict}
use Rattle.format.specs.Reader.{tree_of}
use Rattle.frames.specs.WriteList.{Frames, refused, framed, next, read_frames, only, read_list}
use Rattle.frames.specs.Writer.{Outcome, refuse, wrote, outcome, outcome_after, Afterwards, zeros, result_of, written, refused_at}
use Rattle.format.proofs.Spelling.{encoding_passes}
use Rattle.frames.proofs.FrontLaws.{never, next_got}
use Rattle.frames.proofs.Described.{frames_within}

-- ---- a list that is read is read to its end

pub list_ends : (d : ℕ) (list : List ℕ) {t : Tree d} {r : List ℕ} → read_list d list ≡ framed t r → r ≡ []
unfolding read_list
list_ends d [] h = never h
list_ends d (b ∷ s) {t} {r} h = go (eqb b 0) h
  where
    last : (x : List ℕ × Tree d) (q : List ℕ) → only x q ≡ framed t r → r ≡ []
    last x [] k = cc
    last x (c ∷ q) k = never k

    go : (z : Bool) → cond z (refused NoneOpen (b ∷ s)) (next (read_frames d none (b ∷ s)) only) ≡ framed t r → r ≡ []
    go true h = never h
    go false h = next_got (read_frames d none (b ∷ s)) only h λ x q e k. last x q k

-- ---- success

-- the result of writing n bytes: the list describes a tree within the limits; the output begins with its encoding, and is left as it was past it; the work
-- numbers begin with the sizes of its containers, and are zero past them; strict passes the encoding, and the reader gives the tree back
pub record Wrote (list output work : List ℕ) (n : ℕ) (result : Afterwards) : Type 0 where
  pub tree : Tree depth_limit
  pub described : read_list depth_limit list ≡ framed tree []
  pub within : WithinLimits tree
  pub count : n ≡ length (encoding depth_limit tree)
  pub room : n ≤ length output
  pub numbers : length (sizes_of depth_limit tree) ≤ length work
  pub output_is : result.output ≡ encoding depth_limit tree ++ drop n output
  pub work_is : result.work ≡ sizes_of depth_limit tree ++ zeros (length work - length (sizes_of depth_limit tree))
  pub strict_passes : mask strict (encoding depth_limit tree) ≡ 0
  pub reads_back : tree_of (encoding depth_limit tree) ≡ some tree

no_success : {X : Type 0} {r : Refusal} {p n : ℕ} → refused_at r p ≡ Ok n → X
no_success h = clash cc

pub written_is_encoding : (list output work : List ℕ) (n : ℕ) → Bytes list → (written list output work).answer ≡ Ok n
    → Wrote list output work n (written list output work)
unfolding written outcome
written_is_encoding list output work n w h = short (ltb length_limit (length list)) h
  where
    fits : (t : Tree depth_limit) → read_list depth_limit list ≡ framed t [] → (few small large : Bool) → ltb (length work) (length (sizes_of depth_limit t)) ≡ few
        → ltb (length output) (length (encoding depth_limit t)) ≡ small → ltb length_limit (length (encoding depth_limit t)) ≡ large
        → (o : Outcome)
        → o ≡ cond few (refuse FewWorkNumbers 0) (cond (small || large) (refuse EncodingTooLong 0) (wrote (encoding depth_limit t) (sizes_of depth_limit t)))
        → (result_of o output work).answer ≡ Ok n → Wrote list output work n (result_of o output work)
    fits t e true small large a b c o z h = no_success (rw z at h)
    fits t e false true large a b c o z h = no_success (rw z at h)
    fits t e false false true a b c o z h = no_success (rw z at h)
    fits t e false false false a b c o z h =
        let i : Ok (length (encoding depth_limit t)) ≡ Ok n = rw z at h in
        let m : length (encoding depth_limit t) ≡ n = cc in
        let l : WithinLimits t =
        record { within = frames_within depth_limit list w t [] e; short = ltb-false length_limit (length (encoding depth_limit t)) c } in
        rw z (record {
          tree = t;
          described = e;
          within = l;
          count = sym m;
          room = rw (← m) (ltb-false (length output) (length (encoding depth_limit t)) b);
          numbers = ltb-false (length work) (length (sizes_of depth_limit t)) a;
          output_is = rw m;
          work_is = refl;
          strict_passes = (encoding_passes t l).0 strict;
          reads_back = (encoding_passes t l).1;
        })

    read : (f : Frames (Tree depth_limit)) → read_list depth_limit list ≡ f
        → (result_of (outcome_after depth_limit (length output) (length work) list f) output work).answer ≡ Ok n
        → Wrote list output work n (result_of (outcome_after depth_limit (length output) (length work) list f) output work)
    read (refused r q) e h = no_success h
    read (framed t r) e h =
        fits t (e ∙ ap (λ (q : List ℕ). framed t q) (list_ends depth_limit list e)) (ltb (length work) (length (sizes_of depth_limit t)))
        (ltb (length output) (length (encoding depth_limit t)))
        (ltb length_limit (length (encoding depth_limit t))) refl refl refl _ refl h

    short : (b : Bool) → (result_of
        (cond b (refuse ListTooLong 0) (outcome_after depth_limit (length output) (length work) list (read_list depth_limit list))) output work).answer ≡ Ok n
        → Wrote list output work n
        (result_of (cond b (refuse ListTooLong 0) (outcome_after depth_limit (length output) (length work) list (read_list depth_limit list))) output work)
    short true h = no_success h
    short false h = read (read_list depth_limit list) refl h

-- ---- refusal

no_refusal : {X : Type 0} {r : Refusal} {p n : ℕ} → Ok n ≡ refused_at r p → X
no_refusal h = clash cc

-- the output is as it was, and every work number is zero
pub refused_leaves : (list output work : List ℕ) (r : Refusal) (p : ℕ) → (written list output work).answer ≡ refused_at r p
    → ((written list output work).output ≡ output) × ((written list output work).work ≡ zeros (length work))
unfolding written
refused_leaves list output work r p h = go (outcome (length output) (length work) list) h
  where
    go : (o : Outcome) → (result_of o output work).answer ≡ refused_at r p
        → ((result_of o output work).output ≡ output) × ((result_of o output work).work ≡ zeros (length work))
    go (refuse n q) h = (refl, refl)
    go (wrote e z) h = no_refusal h
