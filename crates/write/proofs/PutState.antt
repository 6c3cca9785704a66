-- The second pass, the fields of an object or the items of an array: what the loop's variables hold of those that are written.
use Prim.Native.Nat.{ℕ, zero, suc, ◌+◌, ◌≤◌, ◌<◌}
use mathlib.Core.Path.{◌≡◌, refl, sym, ap, ◌∙◌}
use mathlib.Core.Bool.{Bool, true, false, not, cond}
use mathlib.Core.List.{List, [], ◌∷◌, ◌++◌}
use lib.ListN.{length, drop, get_or, length-append}
use lib.Seq.{sets, drop_at, drop-drop}
use lib.Dec.{eqb}
use borrow.Author.Tests.{eqb-true, eqb-false}
use Rattle.number.specs.BigEndian.{Bytes}
use Rattle.number.specs.VarUInt.{encoded}
use Rattle.format.specs.Tree.{Tree}
use Rattle.format.specs.Encoding.{concat, kind_of, payload_of, sizes_of}
use Rattle.frames.specs.WriteList.{framed, next, read_frames}
use Rattle.frames.specs.Container.{node_of, ids, count_part, shared_part, body, packs_of}
use Rattle.run.specs.Run.{shared, uniform}
use Rattle.frames.specs.FramePieces.{mode_of, contents_by, container_of}
use Rattle.write.specs.Passes.{part_of}
use Rattle.frames.proofs.FrontLaws.{never, next_got}
use Rattle.frames.proofs.PlaceLaws.{drop_sets, drop_head, sets_append}

-- ---- stores

-- a run behind a run, and what stands behind it
pub sets_behind : (out out₀ out' : List ℕ) (e a : ℕ) (b c : List ℕ) → out' ≡ sets out e c → out ≡ sets out₀ a b → e ≡ a + length b → out' ≡ sets out₀ a
    (b ++ c)
sets_behind out out₀ out' e a b c h i j = h ∙ rw (i, j) (sets_append b c out₀ a)

pub holds_behind : (w w' vs ps more : List ℕ) (j j' : ℕ) → w' ≡ sets w j vs → j' ≡ j + length vs → drop j w ≡ ps ++ more → length ps ≡ length vs → drop j'
    w' ≡ more
holds_behind w w' vs ps more j j' h i e l = rw (h, i, drop_sets, ← drop-drop, e) (drop_at ps more (length vs) l)

-- ---- the first of some fields, or the close

module _ (d : ℕ) (s : List ℕ) (named : Bool) where
  pub contents_case : {X : Type 0} (n : ℕ) (used : List (List ℕ)) (p : ℕ) (ys : List (List ℕ × Tree d)) (r : List ℕ) → contents_by named (read_frames d) n
      used (drop p s) ≡ framed ys r
      → (p < length s → get_or s p 0 ≡ 0 → ys ≡ [] → r ≡ drop (p + 1) s → X)
      → (p < length s → (get_or s p 0 ≡ 0 → ⊥) → (m : ℕ) → n ≡ suc m → (x : List ℕ × Tree d) (q : List ℕ) (zs : List (List ℕ × Tree d)) → read_frames d
      (mode_of named used) (drop p s) ≡ framed x q
      → contents_by named (read_frames d) m (x.0 ∷ used) q ≡ framed zs r → ys ≡ x ∷ zs → X) → X
  contents_case {X} zero used p ys r h f g = never h
  contents_case {X} (suc m) used p ys r h f g = outer (drop p s) refl h
    where
      inner : (b : ℕ) (t : List ℕ) → p < length s → get_or s p 0 ≡ b → drop (p + 1) s ≡ t → drop p s ≡ b ∷ t → (z : Bool) → eqb b 0 ≡ z
          → cond z (framed [] t) (next (read_frames d (mode_of named used) (b ∷ t)) λ x r. next (contents_by named (read_frames d) m (x.0 ∷ used) r) λ xs q.
          framed (x ∷ xs) q) ≡ framed ys r → X
      inner b t l eb et e true ez h = f l (eb ∙ eqb-true b 0 ez) (cc) (cc)
      inner b t l eb et e false ez h =
          next_got (read_frames d (mode_of named used) (b ∷ t)) _ h λ x q e₁ h₁. next_got (contents_by named (read_frames d) m (x.0 ∷ used) q) _ h₁ λ zs u e₂ h₂.
          let i : u ≡ r = cc in
          g l (λ i. eqb-false b 0 ez (sym eb ∙ i)) m refl x q zs (rw e e₁) (e₂ ∙ ap (λ (t : List ℕ). framed zs t) i) (cc)

      outer : (t : List ℕ) → drop p s ≡ t → contents_by named (read_frames d) (suc m) used t ≡ framed ys r → X
      outer [] e h = never h
      outer (b ∷ t) e h = let z = drop_head s p b t e in inner b t z.1 z.0 z.2 e (eqb b 0) refl h

-- ---- a container's fields: the ID that they share, their contents as encoded, their sizes

abbrev pub shared_of : (d : ℕ) → List (List ℕ × Tree d) → ℕ
shared_of d zs = shared (ids (kind_of d) zs)

abbrev pub body_of : (d : ℕ) → Bool → List (List ℕ × Tree d) → List ℕ
body_of d named zs = body named (kind_of d) (payload_of d) zs

abbrev pub parts_of : (d : ℕ) → Bool → List (List ℕ × Tree d) → List (List ℕ × Tree d) → List ℕ
parts_of d named zs xs = shared_part named (uniform named (shared_of d zs)) (shared_of d zs) ++ concat (part_of d named (not (uniform named (shared_of d zs)))) xs

abbrev pub sizes_in : (d : ℕ) → List (List ℕ × Tree d) → List ℕ
sizes_in d xs = concat (λ x. sizes_of d x.1) xs

abbrev pub packs_in : (d : ℕ) → List (List ℕ × Tree d) → List ℕ
packs_in d xs = concat (λ x. packs_of d x.1) xs

pub body_size : (d : ℕ) (named : Bool) (zs : List (List ℕ × Tree d)) → length (body_of d named zs) ≡ length (count_part named (length zs)) + length
    (parts_of d named zs zs)
body_size d named zs = length-append (count_part named (length zs)) (parts_of d named zs zs)

pub record PutLoop (d : ℕ) (s : List ℕ) (at : ℕ) (named : Bool) (to k : ℕ) (out₀ w₀ : List ℕ) (q : ℕ) (typed : Bool) (out w : List ℕ) (p e j n : ℕ) : Type 0
  where
    pub zs : List (List ℕ × Tree d)
    pub xs : List (List ℕ × Tree d)
    pub ys : List (List ℕ × Tree d)
    pub all : zs ≡ xs ++ ys
    pub r : List ℕ
    pub more : List ℕ
    pub fuel : ℕ
    pub used : List (List ℕ)
    pub bytes : Bytes s
    pub short : length s ≤ 65536
    pub high : p ≤ length s
    pub less : n ≤ p
    pub whole : container_of named (read_frames d) (drop at s) ≡ framed (node_of named zs) r
    pub todo : contents_by named (read_frames d) fuel used (drop p s) ≡ framed ys r
    pub is_q : q ≡ to + length (encoded (length (body_of d named zs)))
    pub is_typed_law : typed ≡ not (uniform named (shared_of d zs))
    pub is_out : out ≡ sets (sets out₀ to (encoded (length (body_of d named zs)))) (q + length (count_part named (length zs))) (parts_of d named zs xs)
    pub is_e : e ≡ q + length (count_part named (length zs)) + length (parts_of d named zs xs)
    pub is_n : n ≡ length xs
    pub is_j : j ≡ k + length (length (body_of d named zs) ∷ sizes_in d xs)
    pub is_work : w ≡ sets w₀ k (length (body_of d named zs) ∷ sizes_in d xs)
    pub holds : drop j w ≡ packs_in d ys ++ more
    pub room : e + length (concat (part_of d named typed) ys) ≤ length out₀
