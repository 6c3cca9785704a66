-- Not every tree within the limits has a list within the limit: an array of many zeros is encoded with one shared byte, and a list says the kind of each.
use Prim.Native.Nat.{ℕ, zero, suc, ◌+◌, ◌*◌, ◌≤◌}
use native.Mathlib.Omega.{arith}
use mathlib.Core.Path.{◌≡◌, refl, sym, ap, subst, ◌∙◌}
use mathlib.Core.Bool.{Bool, true, false, cond}
use mathlib.Core.Option.{none}
use mathlib.Core.List.{List, [], ◌∷◌, ◌++◌, map}
use lib.ListN.{length, replicate, length-append, length-drop}
use lib.Dec.{eqb}
use lib.IntN.{pos}
use Rattle.number.proofs.Clash.{clash}
use Rattle.number.specs.BigEndian.{All, Bytes}
use Rattle.number.specs.VarUInt.{encoded}
use Rattle.number.proofs.VarUIntLaws.{encoded_length}
use Rattle.format.specs.declared.Kind.{Kind}
use Rattle.format.specs.declared.Kind.TheVariants.{IntegerPositive}
use Rattle.format.specs.declared.Mark.TheVariants.{SharedByItems}
use Rattle.frames.specs.declared.Refusal.TheVariants.{NoneOpen}
use Rattle.format.specs.Limits.{depth_limit, length_limit}
use Rattle.format.specs.Kinds.{id, type_byte, is_bare, is_uniform_array}
use Rattle.format.specs.Parse.{Out}
use Rattle.format.specs.Payload.{leaf, payload}
use Rattle.format.specs.Tree.{Leaf, integer, Node, atom, array, Tree, Within}
use Rattle.format.specs.Encoding.{concat, leaf_payload, array_body, kind_of, payload_of, encoding, WithinLimits}
use Rattle.frames.specs.WriteList.{refused, framed, next, leaf_found, frame, FrameReader, read_frames, only, read_list}
use Rattle.format.proofs.Lists.{bytes_right}
use Rattle.format.proofs.KindLaws.{same_all}
use Rattle.frames.specs.Container.{node_of, name_part}
use Rattle.frames.specs.FramePieces.{mode_of, contents_by}
use Rattle.frames.proofs.LeafLaws.{leaf_got}
use Rattle.frames.proofs.FrontLaws.{never, next_got}
use Rattle.frames.proofs.Used.{leaf_found_law, payload_case, frame_case}
use Rattle.frames.proofs.Described.{read_within}

-- ---- a list of it is long

-- a leaf of one byte at least takes two of the list
leaf_takes : (k : Kind) (p : List ℕ → Out Leaf) → payload k ≡ leaf p → (f s : List ℕ) → Bytes s → {v : Leaf} {r : List ℕ} → leaf_found f (p s) ≡ framed v r
    → 1 ≤ length (leaf_payload v) → 1 + length r ≤ length s
leaf_takes k p e f s w {v} {r} h m = leaf_found_law f (p s) h λ fs y a b c. leaf_got k p e s w y a b c
    (λ ne z es ek. omega (arith, ap length es, length-append (leaf_payload v) r))
    (λ ek d. omega (arith, d.enough, ap length d.left, length-drop 8 s))

no_leaf : {A X : Type 0} {v : Leaf} (b : Bool) (xs : List (List ℕ × A)) → atom v ≡ node_of b xs → X
no_leaf true xs h = clash cc
no_leaf false xs h = clash cc

item_takes : {A : Type 0} (p : FrameReader A) (used : List (List ℕ)) (s : List ℕ) → Bytes s → {x : List ℕ × Node A} {r : List ℕ} (v : Leaf)
    → 1 ≤ length (leaf_payload v) → frame p (mode_of false used) s ≡ framed x r → x.1 ≡ atom v → 2 + length r ≤ length s
unfolding name_part
item_takes p used s w {x} {r} v m h e = frame_case p false used s w h λ k q i f j. payload_case p s k q f.good j
    (λ g u eg h₁ et.
    let z : v ≡ u = (let y : atom v ≡ atom u = sym e ∙ et in cc) in
    omega (arith, ap length f.is, leaf_takes k g eg s q (bytes_right s (id k ∷ []) q w f.is) h₁ (rw (← z) m)))
    (λ b ek xs h₁ et. no_leaf b xs (sym e ∙ et))

module _ {A : Type 0} (p : FrameReader A) (a : A)
    (g : (used : List (List ℕ)) (s : List ℕ) (x : List ℕ × A) (r : List ℕ) → Bytes s → p (mode_of false used) s ≡ framed x r → x.1 ≡ a
    → (2 + length r ≤ length s) × Bytes r) where
  items_take : (n : ℕ) (used : List (List ℕ)) (s : List ℕ) (xs : List (List ℕ × A)) (r : List ℕ) → Bytes s → contents_by false p n used s ≡ framed xs r
      → All (λ x. x.1 ≡ a) xs → 2 * length xs + 1 ≤ length s
  items_take zero used s xs r w h e = never h
  items_take (suc n) used [] xs r w h e = never h
  items_take (suc n) used (b ∷ s) xs r w h e = go (λ v q ys t y i o. items_take n v q ys t y i o) (eqb b 0) h
    where
      go : ((v : List (List ℕ)) (q : List ℕ) (ys : List (List ℕ × A)) (t : List ℕ) → Bytes q → contents_by false p n v q ≡ framed ys t → All (λ x. x.1 ≡ a) ys
          → 2 * length ys + 1 ≤ length q) → (z : Bool)
          → cond z (framed [] s) (next (p (mode_of false used) (b ∷ s)) λ x r. next (contents_by false p n (x.0 ∷ used) r) λ xs q. framed (x ∷ xs) q)
          ≡ framed xs r → 2 * length xs + 1 ≤ length (b ∷ s)
      go ih true h = let z : [] ≡ xs = cc in rw (← z) (omega arith)
      go ih false h =
          next_got (p (mode_of false used) (b ∷ s)) _ h λ x q i h₁. next_got (contents_by false p n (x.0 ∷ used) q) _ h₁ λ ys t i₁ h₂.
          let z : xs ≡ x ∷ ys = cc in
          let o : All (λ x. x.1 ≡ a) (x ∷ ys) = subst (All (λ (x : List ℕ × A). x.1 ≡ a)) z e in
          let j = g used (b ∷ s) x q w i o.0 in
          rw z (omega (arith, j.0, ih (x.0 ∷ used) q ys t j.1 i₁ o.1))

all_replicate : {A : Type 0} (a : A) (m : ℕ) (xs : List (List ℕ × A)) → map (λ x. x.1) xs ≡ replicate m a → All (λ x. x.1 ≡ a) xs × (length xs ≡ m)
all_replicate a zero [] h = (tt, refl)
all_replicate a (suc m) [] h = clash cc
all_replicate a zero (x ∷ xs) h = clash cc
all_replicate a (suc m) (x ∷ xs) h = let i = all_replicate a m xs (cc) in ((cc, i.0), ap suc i.1)

-- m zeros
abbrev pub zero_leaf : Leaf
zero_leaf = integer (pos 0)

abbrev pub many_zeros : (d m : ℕ) → Tree (suc (suc d))
many_zeros d m = array (replicate m (atom zero_leaf))

frame_long : (d m : ℕ) (s : List ℕ) → Bytes s → {x : List ℕ × Tree (suc (suc d))} {r : List ℕ} → read_frames (suc (suc d)) (mode_of false []) s ≡ framed x r
    → x.1 ≡ many_zeros d m → 2 * m + 2 ≤ length s
unfolding read_frames name_part
frame_long d m s w {x} {r} h e = frame_case (read_frames (suc d)) false [] s w h λ k q i f j. payload_case (read_frames (suc d)) s k q f.good j
    (λ g u eg h₁ et. absurd (let y : many_zeros d m ≡ atom u = sym e ∙ et in let z : ◌≡◌ {A = ℕ} 0 1 = cc in omega arith))
    (λ b ek xs h₁ et. by k q f.is b xs h₁ (sym e ∙ et))
  where
    by : (k : Kind) (q : List ℕ) → s ≡ id k ∷ q → (b : Bool) (xs : List (List ℕ × Tree (suc d)))
        → contents_by b (read_frames (suc d)) (length q) [] q ≡ framed xs r → many_zeros d m ≡ node_of b xs → 2 * m + 2 ≤ length s
    by k q es true xs h e = clash cc
    by k q es false xs h e =
        let y : map (λ (x : List ℕ × Tree (suc d)). x.1) xs ≡ replicate m (atom zero_leaf) =
        (let z : array (replicate m (atom zero_leaf)) ≡ array (map (λ (x : List ℕ × Tree (suc d)). x.1) xs) = e in cc) in
        let i = all_replicate (atom zero_leaf) m xs y in
        omega (
          arith,
          ap length es,
          i.1,
          items_take (read_frames (suc d)) (atom zero_leaf)
              (λ used s x r w h e. (item_takes (read_frames d) used s w zero_leaf (encoded_length 0).0 h e, (read_within (suc d) false used s x r w h).1))
              (length q) [] q xs r (bytes_right s (id k ∷ []) q w es) h i.0,
        )

pub zeros_list : (d m : ℕ) (list : List ℕ) → Bytes list → {r : List ℕ} → read_list (suc (suc d)) list ≡ framed (many_zeros d m) r → 2 * m + 2 ≤ length list
unfolding read_list
zeros_list d m [] w h = never h
zeros_list d m (b ∷ s) w {r} h = go (eqb b 0) h
  where
    last : (x : List ℕ × Tree (suc (suc d))) (q : List ℕ) → only x q ≡ framed (many_zeros d m) r → x.1 ≡ many_zeros d m
    last x [] k = cc
    last x (c ∷ q) k = never k

    go : (z : Bool) → cond z (refused NoneOpen (b ∷ s)) (next (read_frames (suc (suc d)) none (b ∷ s)) only) ≡ framed (many_zeros d m) r
        → 2 * m + 2 ≤ length (b ∷ s)
    go true h = never h
    go false h = next_got (read_frames (suc (suc d)) none (b ∷ s)) only h λ x q e k. frame_long d m (b ∷ s) w e (last x q k)

-- ---- its encoding is short

zeros_within : (d m : ℕ) → All (Within (suc d)) (replicate m (atom zero_leaf))
zeros_within d zero = tt
zeros_within d (suc m) = (omega arith, zeros_within d m)

zeros_same : (d m : ℕ) → All (λ t. kind_of (suc d) t ≡ IntegerPositive) (replicate m (atom zero_leaf))
zeros_same d zero = tt
zeros_same d (suc m) = (refl, zeros_same d m)

zero_one : length (encoded 0) ≡ 1
unfolding encoded
zero_one = refl

zeros_length : (d m : ℕ) → length (concat (payload_of (suc d)) (replicate m (atom zero_leaf))) ≡ m
zeros_length d zero = refl
zeros_length d (suc m) =
    omega (arith, zero_one, zeros_length d m, length-append (leaf_payload zero_leaf) (concat (payload_of (suc d)) (replicate m (atom zero_leaf))))

zeros_uniform : (d m : ℕ) → is_uniform_array (map (kind_of (suc d)) (replicate (suc m) (atom zero_leaf))) ≡ true
unfolding is_uniform_array is_bare
zeros_uniform d m = same_all (kind_of (suc d)) IntegerPositive (replicate m (atom zero_leaf)) (zeros_same d m)

pub zeros_short : (d m : ℕ) → length (encoding (suc (suc d)) (many_zeros d (suc m))) ≤ m + 21
unfolding encoding
zeros_short d m =
    let xs : List (Tree (suc d)) = replicate (suc m) (atom zero_leaf) in
    let b = array_body (kind_of (suc d)) (payload_of (suc d)) xs in
    let c = concat (payload_of (suc d)) xs in
    let e : b ≡ encoded (length xs) ++ (type_byte SharedByItems IntegerPositive ∷ c) = rw (zeros_uniform d m) in
    omega (
      arith,
      ap length e,
      zeros_length d (suc m),
      length-append (encoded (length xs)) (type_byte SharedByItems IntegerPositive ∷ c),
      length-append (encoded (length b)) b,
      (encoded_length (length xs)).1,
      (encoded_length (length b)).1,
    )

-- From 32,768 zeros on the tree is within the limits (here up to 65,001 of them), and no list of at most 65,536 bytes describes it
pub beyond_lists : (m : ℕ) → 32767 ≤ m → m ≤ 65000 → WithinLimits (many_zeros 30 (suc m))
    × ((list : List ℕ) → Bytes list → length list ≤ length_limit → read_list depth_limit list ≡ framed (many_zeros 30 (suc m)) [] → ⊥)
beyond_lists m h l =
    (record { within = zeros_within 30 (suc m); short = omega (arith, zeros_short 30 m) }, λ list w k e. omega (arith, zeros_list 30 (suc m) list w e))
