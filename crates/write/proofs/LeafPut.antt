-- The second pass, a leaf: what stands in the list is written, but for a Float64 that Float32 holds.
use Rattle.std.specs.Prelude.{Some, Option, None}
use Prim.Native.Nat.{ℕ, ◌+◌, ◌-◌, ◌≤◌}
use native.Mathlib.Omega.{arith}
use mathlib.Core.Path.{◌≡◌, refl, sym, ap, ◌∙◌}
use mathlib.Core.Bool.{Bool, true, false, cond}
use mathlib.Core.List.{List, ◌++◌}
use lib.ListN.{length, drop, take, length-append, length-drop}
use lib.Seq.{sets, length-take-le, take-append_seam}
use borrow.Author.Tests.{le-ltb}
use Rattle.number.proofs.Clash.{clash}
use Rattle.number.specs.BigEndian.{to_bytes}
use Rattle.number.proofs.BigEndianLaws.{to_length}
use Rattle.float.specs.Rule.{holds}
use Rattle.float.specs.Width.{narrow}
use Rattle.float.specs.Answer.{narrowed}
use Rattle.format.specs.declared.Kind.{Kind}
use Rattle.faults.specs.Noted.{nothing}
use Rattle.head.specs.Code.{head_at}
use Rattle.format.specs.Kinds.{id, known}
use Rattle.format.specs.declared.Flaw.{Flaw}
use Rattle.format.specs.Parse.{Out}
use Rattle.format.specs.Payload.{Payload, leaf, fields, shared_fields, items, shared_items, payload}
use Rattle.format.specs.Tree.{Leaf}
use Rattle.format.specs.Encoding.{leaf_payload}
use Rattle.front.specs.Between.{between}
use Rattle.frames.specs.WriteList.{Frames, framed, leaf_found}
use Rattle.format.proofs.KindLaws.{known_inv}
use Rattle.write.specs.declared.Position.{Position}
use Rattle.output.specs.Encoded.{bits_at}
use Rattle.write.specs.Again.{end_at}
use Rattle.frames.specs.FramePieces.{leaf_by, leaf_known, leaf_of}
use Rattle.write.specs.Passes.{LeafMakes, LeafReady}
use Rattle.frames.proofs.FrontLaws.{never}
use Rattle.frames.proofs.PlaceLaws.{bytes_drop}
use Rattle.frames.proofs.LeafLaws.{Double, bits_of, leaf_got}
use Rattle.frame.specs.Pieces.{no_modes, end_in, leaf_end, bits_in}
use Rattle.frame.proofs.LeafHeadings.{heading_leaf_law}
use Rattle.frames.proofs.Used.{leaf_found_law}

abbrev position : ℕ → ℕ → ℕ → Position
position n o k = record { next = n; to = o; opened = k }

-- what was read, with its kind and its reader
pub leaf_case : {X : Type 0} (b : ℕ) (s : List ℕ) {v : Leaf} {r : List ℕ} → leaf_of b s ≡ framed v r →
    ((k : Kind) (p : List ℕ → Out Leaf) → known b ≡ Some k → b ≡ id k → payload k ≡ leaf p → leaf_found s (p s) ≡ framed v r → X) → X
unfolding leaf_of
leaf_case {X} b s {v} {r} h c = go (known b) refl h
  where
    by : (k : Kind) → known b ≡ Some k → (q : Payload) → payload k ≡ q → leaf_by q s ≡ framed v r → X
    by k e (leaf p) i h = c k p e (known_inv b k e) i h
    by k e fields i h = never h
    by k e shared_fields i h = never h
    by k e items i h = never h
    by k e shared_items i h = never h

    go : (o : Option Kind) → known b ≡ o → leaf_known o s ≡ framed v r → X
    go None e h = never h
    go (Some k) e h = by k e (payload k) refl h

pub same_leaf : {A : Type 0} {o : Frames A} {x y : A} {q r : List ℕ} → o ≡ framed x q → o ≡ framed y r → (x ≡ y) × (q ≡ r)
same_leaf a b = (cc, cc)

-- ---- a Float64

module _ (s : List ℕ) (at to : ℕ) (out : List ℕ) (g : LeafReady s at 11 to out) where
  double : {X : Type 0} → ((fs : List Flaw) → Double (drop at s) g.v fs g.r → X) → X
  unfolding known
  double {X} c = leaf_case 11 (drop at s) g.reads λ k p ek ei ep h. leaf_found_law (drop at s) (p (drop at s)) h λ fs y a b d. leaf_got k p ep (drop at s)
      (bytes_drop s at g.bytes) y a b d
      (λ ne. absurd (ne (sym ei))) (λ z q. c fs q)

  pub double_high : at + 8 ≤ length s
  double_high = double λ fs d. omega (arith, d.enough, length-drop at s, g.inside)

  module _ (v : ℕ) (e : v ≡ bits_at s at) (x : Option ℕ) (i : x ≡ narrowed v) where
    bits_are : bits_at s at ≡ bits_of (drop at s)
    unfolding bits_at bits_in
    bits_are = double λ fs d. rw (le-ltb (length (drop at s)) 8 d.enough)

    module _ (n : ℕ) (j : x ≡ Some n) where
      to_is : (holds (bits_of (drop at s)) ≡ true) × (n ≡ narrow (bits_of (drop at s)))
      to_is = rw (e ∙ bits_are) at (go (holds v) refl (sym j ∙ i))
        where
          go : (b : Bool) → holds v ≡ b → Some n ≡ cond b (Some (narrow v)) None → (holds v ≡ true) × (n ≡ narrow v)
          go true h z = (h, cc)
          go false h z = clash cc

      narrow_bytes : leaf_payload g.v ≡ to_bytes 4 n
      narrow_bytes = double λ fs d. let t = to_is in let z : leaf_payload g.v ≡ to_bytes 4 (narrow (bits_of (drop at s))) = rw t.0 at d.bytes in rw
          t.1 z

      pub narrow_room : to + 4 ≤ length out
      narrow_room = let z : length (leaf_payload g.v) ≡ 4 = rw narrow_bytes (to_length 4 n) in omega (arith, g.room)

      pub narrow_made : (k : ℕ) (out' : List ℕ) → out' ≡ sets out to (to_bytes 4 n) → LeafMakes s at 11 to k out out' (position (at + 8) (to + 4) k)
      narrow_made k out' eo = record {
        made = λ u r h. double λ fs d.
            let t = same_leaf h g.reads in
            let z : length (leaf_payload g.v) ≡ 4 = rw narrow_bytes (to_length 4 n) in
            let l : length g.r ≡ length (drop at s) - 8 = rw d.left (length-drop 8 (drop at s)) in
            rw t.0 (record {
              next = rw t.1 (omega (arith, d.enough, length-drop at s, g.inside));
              on = rw z;
              same = refl;
              is_out = rw narrow_bytes
                  eo;
            });
      }

      pub narrow_put : (k z : ℕ) (out' : List ℕ) {out'' : List ℕ} → z ≡ 4 → out' ≡ out'' → out'' ≡ sets out to (to_bytes 4 n)
          → LeafMakes s at 11 to k out out' (position (at + 8) (to + z) k)
      narrow_put k z out' ez eo eb = rw ez (narrow_made k out' (eo ∙ eb))

    module _ (j : x ≡ None) where
      no_is : holds (bits_of (drop at s)) ≡ false
      no_is = rw (e ∙ bits_are) at (go (holds v) refl (sym j ∙ i))
        where
          go : (b : Bool) → holds v ≡ b → None ≡ cond b (Some (narrow v)) None → holds v ≡ false
          go true h z = clash cc
          go false h z = h

      wide_bytes : leaf_payload g.v ≡ take 8 (drop at s)
      wide_bytes = double λ fs d. rw no_is at d.bytes

      wide_length : length (leaf_payload g.v) ≡ 8
      wide_length = double λ fs d. rw wide_bytes (length-take-le 8 (drop at s) d.enough)

      pub wide_room : to + (at + 8 - at) ≤ length out
      wide_room = omega (arith, g.room, wide_length)

      pub wide_made : (k : ℕ) (out' : List ℕ) → out' ≡ sets out to (between at (at + 8) s) → LeafMakes s at 11 to k out out' (position (at + 8) (to + 8) k)
      wide_made k out' eo = record {
        made = λ u r h. double λ fs d.
            let t = same_leaf h g.reads in
            let l : length g.r ≡ length (drop at s) - 8 = rw d.left (length-drop 8 (drop at s)) in
            let m : at + 8 - at ≡ 8 = omega arith in
            rw t.0 (record {
              next = rw t.1 (omega (arith, d.enough, length-drop at s, g.inside));
              on = rw wide_length;
              same = refl;
              is_out = rw
                  wide_bytes (rw m at eo);
            });
      }

      pub wide_put : (k z : ℕ) (out' : List ℕ) {out'' : List ℕ} → z ≡ 8 → out' ≡ out'' → out'' ≡ sets out to (between at (at + 8) s)
          → LeafMakes s at 11 to k out out' (position (at + 8) (to + z) k)
      wide_put k z out' ez eo eb = rw ez (wide_made k out' (eo ∙ eb))

-- ---- any other leaf

module _ (s : List ℕ) (at b to : ℕ) (out : List ℕ) (g : LeafReady s at b to out) where
  pub leaf_double : b ≡ 11 → LeafReady s at 11 to out
  leaf_double e = rw e at g

  pub leaf_double_made : b ≡ 11 → (k : ℕ) (out' : List ℕ) (p : Position) → LeafMakes s at 11 to k out out' p → LeafMakes s at b to k out out' p
  leaf_double_made e k out' p h = rw e h

  module _ (ne : b ≡ 11 → ⊥) (end : ℕ) (ee : end ≡ end_at s at b) where
    -- it stands there, and ends there
    plain : (drop at s ≡ leaf_payload g.v ++ g.r) × (end ≡ at + length (leaf_payload g.v))
    unfolding end_at leaf_end
    plain = leaf_case b (drop at s) g.reads λ k p ek ei ep h. leaf_found_law (drop at s) (p (drop at s)) h λ fs y u v w. leaf_got k p ep (drop at s)
        (bytes_drop s at g.bytes) y u v w
        (λ nk fe es ekk.
        let n : length (drop at s) ≡ length (leaf_payload g.v) + length g.r = ap length es ∙ length-append (leaf_payload g.v) g.r in
        let z : end_in (head_at k no_modes nothing (drop at s)) ≡ length (drop at s) - length g.r = rw (heading_leaf_law k p ep no_modes nothing (drop at s), y) in
        let q : end ≡ at + end_in (head_at k no_modes nothing (drop at s)) = rw ek at ee in
        (es, omega arith))
        (λ z q. absurd (ne (ei ∙ ap id z)))

    pub plain_inside : (at ≤ end) × (end ≤ length s)
    plain_inside = let z = plain in let n : length (drop at s) ≡ length (leaf_payload g.v) + length g.r = ap length z.0 ∙ length-append
        (leaf_payload g.v) g.r in (omega (arith, z.1), omega (arith, z.1, length-drop at s, g.inside))

    pub plain_low : at ≤ end
    plain_low = plain_inside.0

    pub plain_high : end ≤ length s
    plain_high = plain_inside.1

    pub plain_room : to + (end - at) ≤ length out
    plain_room = omega (arith, plain.1, g.room)

    pub plain_made : (k : ℕ) (out' : List ℕ) → out' ≡ sets out to (between at end s) → LeafMakes s at b to k out out' (position end (to + (end - at)) k)
    plain_made k out' eo = record {
      made = λ u r h.
          let t = same_leaf h g.reads in
          let z = plain in
          let m : end - at ≡ length (leaf_payload g.v) = omega (arith, z.1) in
          let n : length (drop at s) ≡ length (leaf_payload g.v) + length g.r = ap length z.0 ∙ length-append (leaf_payload g.v) g.r in
          let y : between at end s ≡ leaf_payload g.v = rw (m, z.0) (take-append_seam (leaf_payload g.v) g.r) in
          rw t.0 (record { next = rw t.1 (omega (arith, z.1, length-drop at s, g.inside)); on = rw m; same = refl; is_out = rw y at eo });
    }
