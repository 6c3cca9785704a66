-- A name and a leaf by a position of the list: what stands behind it, counted from the front of the list.
use Rattle.std.specs.Prelude.{Err, Result, Ok}
use Prim.Native.Nat.{ℕ, min, ◌+◌, ◌-◌, ◌≤◌}
use native.Mathlib.Omega.{arith}
use mathlib.Core.Path.{◌≡◌, refl, sym, ap, ◌∙◌}
use mathlib.Core.Bool.{Bool, true, false, cond}
use mathlib.Core.List.{List}
use lib.Dec.{ltb}
use borrow.Author.Tests.{ltb-true, ltb-false}
use lib.ListN.{length, drop, length-append, length-drop, drop_of_length-le}
use Rattle.number.proofs.Clash.{clash}
use Rattle.format.specs.declared.Kind.{Kind}
use Rattle.format.specs.declared.Flaw.{Flaw}
use Rattle.format.specs.declared.Flaw.TheVariants.{Blank, Long, NotUtf8}
use Rattle.frames.specs.declared.Refusal.{Refusal}
use Rattle.frames.specs.declared.Refusal.TheVariants.{BadFrame, EmptyName, NotText}
use Rattle.format.specs.Mask.{has}
use Rattle.format.specs.Parse.{Out, fault, got}
use Rattle.format.specs.Names.{read_name}
use Rattle.format.specs.Tree.{Leaf}
use Rattle.format.specs.Payload.{Payload, leaf, fields, shared_fields, items, shared_items, payload}
use Rattle.front.specs.Between.{between}
use Rattle.front.proofs.BetweenLaws.{rest_all}
use Rattle.frames.specs.WriteList.{Frames, refused, framed}
use Rattle.frames.specs.FramePieces.{leaf_by}
use Rattle.frames.proofs.LeafLaws.{leaf_left}
use Rattle.frames.proofs.Used.{leaf_found_law}
use Rattle.frame.specs.declared.Name.{Name}
use Rattle.frame.specs.declared.LeafFrame.{LeafFrame}
use Rattle.frame.specs.Pieces.{name_by, name_of, name_at, leaf_met, leaf_frame_of, leaf_frame_at}
use Rattle.frame.specs.Made.{name_read, leaf_read}
use Rattle.frame.proofs.MadeLaws.{name_same}
use Rattle.frame.proofs.NameReturns.{name_parts}

-- ---- a position

pub inside_law : (s : List ℕ) (at n : ℕ) → n ≡ min at (length s) → (n ≤ length s) × (drop n s ≡ drop at s)
inside_law s at n e = go (ltb at (length s)) refl
  where
    go : (b : Bool) → ltb at (length s) ≡ b → (n ≤ length s) × (drop n s ≡ drop at s)
    go true q = let z : n ≡ at = omega (arith, ltb-true at (length s) q) in (omega arith, ap (λ m. drop m s) z)
    go false q =
        let l : length s ≤ at = ltb-false at (length s) q in
        (omega arith, drop_of_length-le s {i = n} (omega arith) ∙ sym (drop_of_length-le s l))

-- ---- a name

-- where a name of m bytes stands that leaves r of the t - a bytes behind a
moved : (a t b f m r w n : ℕ) → a ≤ t → n ≡ t - a → n ≡ w + (m + r) → b ≡ n - r - m → f ≡ n - r
    → (a + b ≡ t - r - m) × (a + f ≡ t - r) × (a + b ≤ t) × (a + f ≤ t)
moved a t b f m r w n l d e u v = rw (whole a t w m r n l d e, front n w m r b e u, till n w m r f e v) (here a w m r)
  where
    whole : (a t w m r n : ℕ) → a ≤ t → n ≡ t - a → n ≡ w + (m + r) → t ≡ a + (w + (m + r))
    whole a t w m r n l d e = omega arith

    till : (n w m r f : ℕ) → n ≡ w + (m + r) → f ≡ n - r → f ≡ w + m
    till n w m r f e v = omega arith

    drop_end : (w m : ℕ) → w + m - m ≡ w
    drop_end w m = omega arith

    front : (n w m r b : ℕ) → n ≡ w + (m + r) → b ≡ n - r - m → b ≡ w
    front n w m r b e u = let z : n - r ≡ w + m = till n w m r (n - r) e refl in rw z at u ∙ drop_end w m

    here : (a w m r : ℕ)
        → (a + w ≡ a + (w + (m + r)) - r - m) × (a + (w + m) ≡ a + (w + (m + r)) - r) × (a + w ≤ a + (w + (m + r))) × (a + (w + m) ≤ a + (w + (m + r)))
    here a w m r =
        let z : a + (w + (m + r)) - r ≡ a + w + m = omega arith in
        (rw z (sym (drop_end (a + w) m)), rw z (omega arith), omega arith, omega arith)

moved_name : (s : List ℕ) (at from : ℕ) → drop from s ≡ drop at s → name_by (length s) (read_name (drop from s)) ≡ name_at s at
unfolding name_at
moved_name s at from d = ap (λ (t : List ℕ). name_by (length s) (read_name t)) d

module _ (s : List ℕ) (from : ℕ) (l : from ≤ length s) (x : Result Name Refusal) (e : x ≡ name_of (between from (length s) s)) where
  here : x ≡ name_by (length (drop from s)) (read_name (drop from s))
  unfolding name_of
  here = e ∙ ap name_of (rest_all from s)

  pub name_refused : (n : Refusal) → x ≡ Err n → (at : ℕ) → drop from s ≡ drop at s → Err n ≡ name_at s at
  name_refused n i at d = go (read_name (drop from s)) (sym i ∙ here) ∙ moved_name s at from d
    where
      by : (a b c : Bool) (u v : Result Name Refusal) → Err n ≡ cond a (Err BadFrame) (cond b (Err EmptyName) (cond c (Err NotText) u))
          → (Err n ≡ u → Err n ≡ v) → Err n ≡ cond a (Err BadFrame) (cond b (Err EmptyName) (cond c (Err NotText) v))
      by true b c u v h f = h
      by false true c u v h f = h
      by false false true u v h f = h
      by false false false u v h f = f h

      go : (o : Out (List ℕ)) → Err n ≡ name_by (length (drop from s)) o → Err n ≡ name_by (length s) o
      go (fault k) h = h
      go (got m fs r) h = by (has Long fs) (has Blank fs) (has NotUtf8 fs) _ _ h λ z. clash cc

  module _ (p : Name) (i : x ≡ Ok p) where
    shifted : (name_read (from + p.begin) (from + p.end) ≡ name_by (length s) (read_name (drop from s))) × (from + p.begin ≤ length s) × (from + p.end ≤ length s)
    shifted = go (read_name (drop from s)) refl (sym i ∙ here)
      where
        by : (m : List ℕ) (fs : List Flaw) (r : List ℕ) → read_name (drop from s) ≡ got m fs r → (t q o : Bool)
            → Ok p ≡ cond t (Err BadFrame)
            (cond q (Err EmptyName) (cond o (Err NotText) (name_read (length (drop from s) - length r - length m) (length (drop from s) - length r))))
            → (name_read (from + p.begin) (from + p.end) ≡ cond t (Err BadFrame)
            (cond q (Err EmptyName) (cond o (Err NotText) (name_read (length s - length r - length m) (length s - length r)))))
            × (from + p.begin ≤ length s) × (from + p.end ≤ length s)
        by m fs r y true q o h = clash cc
        by m fs r y false true o h = clash cc
        by m fs r y false false true h = clash cc
        by m fs r y false false false h =
            let u = name_same h in
            let w = name_parts (drop from s) y in
            let n : length (drop from s) ≡ length w.0 + (length m + length r) = simp length-append at (ap length w.1) in
            let z = moved from (length s) p.begin p.end (length m) (length r) (length w.0) (length (drop from s)) l (length-drop from s) n u.0 u.1 in
            (rw (z.0, z.1), z.2, z.3)

        go : (o : Out (List ℕ)) → read_name (drop from s) ≡ o → Ok p ≡ name_by (length (drop from s)) o
            → (name_read (from + p.begin) (from + p.end) ≡ name_by (length s) o) × (from + p.begin ≤ length s) × (from + p.end ≤ length s)
        go (fault k) y h = clash cc
        go (got m fs r) y h = by m fs r y (has Long fs) (has Blank fs) (has NotUtf8 fs) h

    pub name_shift : (at : ℕ) → drop from s ≡ drop at s → name_read (from + p.begin) (from + p.end) ≡ name_at s at
    name_shift at d = shifted.0 ∙ moved_name s at from d

    pub name_inside : (from + p.begin ≤ length s) × (from + p.end ≤ length s)
    name_inside = (shifted.1, shifted.2)

-- ---- a leaf

moved_leaf : (s : List ℕ) (at from : ℕ) (k : Kind) → drop from s ≡ drop at s → leaf_met (length s) (leaf_by (payload k) (drop from s)) ≡ leaf_frame_at k s at
unfolding leaf_frame_at
moved_leaf s at from k d = ap (λ (t : List ℕ). leaf_met (length s) (leaf_by (payload k) t)) d

module _ (s : List ℕ) (from : ℕ) (l : from ≤ length s) (k : Kind) (x : Result LeafFrame Refusal) (e : x ≡ leaf_frame_of k (between from (length s) s)) where
  leaf_here : x ≡ leaf_met (length (drop from s)) (leaf_by (payload k) (drop from s))
  unfolding leaf_frame_of
  leaf_here = e ∙ ap (leaf_frame_of k) (rest_all from s)

  pub leaf_refused_at : (n : Refusal) → x ≡ Err n → (at : ℕ) → drop from s ≡ drop at s → Err n ≡ leaf_frame_at k s at
  leaf_refused_at n i at d = go (leaf_by (payload k) (drop from s)) (sym i ∙ leaf_here) ∙ moved_leaf s at from k d
    where
      go : (o : Frames Leaf) → Err n ≡ leaf_met (length (drop from s)) o → Err n ≡ leaf_met (length s) o
      go (refused m r) h = h
      go (framed v r) h = clash cc

  -- what is left behind it is an end
  left_end : (v : Leaf) (r : List ℕ) → leaf_by (payload k) (drop from s) ≡ framed v r → length r ≤ length (drop from s)
  left_end v r h = go (payload k) refl h
    where
      go : (q : Payload) → payload k ≡ q → leaf_by q (drop from s) ≡ framed v r → length r ≤ length (drop from s)
      go (leaf p) ep h = leaf_found_law (drop from s) (p (drop from s)) h λ fs y a b c.
          let w = leaf_left k p ep (drop from s) y in
          let n : length (drop from s) ≡ length w.0 + length r = simp length-append at (ap length w.1) in
          omega arith
      go fields ep h = clash cc
      go shared_fields ep h = clash cc
      go items ep h = clash cc
      go shared_items ep h = clash cc

  module _ (p : LeafFrame) (h : x ≡ Ok p) where
    leaf_shifted : (leaf_read (from + p.end) p.id p.size ≡ leaf_met (length s) (leaf_by (payload k) (drop from s))) × (from + p.end ≤ length s)
    leaf_shifted = go (leaf_by (payload k) (drop from s)) refl (sym h ∙ leaf_here)
      where
        go : (o : Frames Leaf) → leaf_by (payload k) (drop from s) ≡ o → Ok p ≡ leaf_met (length (drop from s)) o
            → (leaf_read (from + p.end) p.id p.size ≡ leaf_met (length s) o) × (from + p.end ≤ length s)
        go (refused m r) y q = clash cc
        go (framed v r) y q =
            let u : p.end ≡ length (drop from s) - length r = ap end_of q in
            let d = length-drop from s in
            let g : from + p.end ≡ length s - length r = omega (arith, left_end v r y) in
            (rw g (ap (leaf_end_at (length s - length r)) q), omega arith)
          where
            end_of : Result LeafFrame Refusal → ℕ
            end_of (Err m) = 0
            end_of (Ok p) = p.end

            leaf_end_at : ℕ → Result LeafFrame Refusal → Result LeafFrame Refusal
            leaf_end_at n (Err m) = Err m
            leaf_end_at n (Ok p) = leaf_read n p.id p.size

    pub leaf_shift : (at : ℕ) → drop from s ≡ drop at s → leaf_read (from + p.end) p.id p.size ≡ leaf_frame_at k s at
    leaf_shift at d = leaf_shifted.0 ∙ moved_leaf s at from k d

    pub leaf_inside : from + p.end ≤ length s
    leaf_inside = leaf_shifted.1
