-- Every layer: a tree within the limits is read back, and only such a tree is read with no flaw.
use Prim.Native.Nat.{ℕ, zero, suc, ◌^◌, ◌<◌}
use mathlib.Core.Path.{◌≡◌, refl, ap, ◌∙◌}
use mathlib.Core.List.{List, [], ◌++◌}
use lib.ListN.{length}
use Rattle.number.specs.BigEndian.{Bytes}
use Rattle.format.specs.declared.Form.TheVariants.{Top}
use Rattle.format.specs.Parse.{got}
use Rattle.format.specs.Tree.{atom, array, object, Tree, map_node, Within}
use Rattle.format.specs.Encoding.{kind_of, payload_of, encoding}
use Rattle.format.specs.Reader.{Standing, Named, Layout, tree, read}
use Rattle.format.proofs.Lists.{append_nil, map_map, map_same}
use Rattle.format.proofs.Back.{never}
use Rattle.format.proofs.LayerFields.{stand, Fine}
use Rattle.format.proofs.Layer.{layer_fine}

-- a tree as its encoding has it
abbrev pub layout_of : (d : ℕ) → Tree d → Layout d
layout_of zero t = absurd t
layout_of (suc d) t = map_node (stand (kind_of d) (layout_of d)) t

pub tree_layout : (d : ℕ) (t : Tree d) → tree d (layout_of d t) ≡ t
tree_layout zero t = absurd t
tree_layout (suc d) (atom v) = refl
tree_layout (suc d) (array xs) = ap array (map_map _ _ (λ x. x) (tree_layout d) xs ∙ map_same (λ x. x) (λ x. refl) xs)
tree_layout (suc d) (object xs) =
    ap object (map_map _ _ (λ x. x) (λ x. ap (λ (t : Tree d). (x.0, t)) (tree_layout d x.1)) xs ∙ map_same (λ x. x) (λ x. refl) xs)

pub read_fine : (d : ℕ) → Fine (read d) (kind_of d) (layout_of d) (payload_of d) (Within d)
unfolding read
read_fine zero = record { good = λ f. record { rt = λ a r w l. absurd a.1; inv = λ s x r w h. never h }; some = λ a w h. absurd a }
read_fine (suc d) = layer_fine (read d) (kind_of d) (layout_of d) (payload_of d) (Within d) (read_fine d)

pub read_encoding : (d : ℕ) (t : Tree d) (r : List ℕ) → Within d t → length (encoding d t) < 2 ^ 64
    → read d Top (encoding d t ++ r) ≡ got ([], (kind_of d t, layout_of d t)) [] r
unfolding encoding
read_encoding d t r w l = ((read_fine d).good Top).rt ([], t) r (refl, w) l

pub read_only : (d : ℕ) (s : List ℕ) (x : Named (Standing (Layout d))) → Bytes s → read d Top s ≡ got x [] []
    → (t : Tree d) × Within d t × (s ≡ encoding d t) × (x ≡ ([], (kind_of d t, layout_of d t)))
unfolding encoding
read_only d s x w h =
    let j = ((read_fine d).good Top).inv s x [] w h in
    (j.0.1, j.3.1, rw append_nil at j.2, j.1 ∙ ap (λ n. (n, (kind_of d j.0.1, layout_of d j.0.1))) j.3.0)
