-- One manifest, one spelling: the theorems about the definitions, in the mission's words.
use Prim.Native.Nat.{ℕ, ◌+◌, ◌%◌, ◌≤◌}
use native.Mathlib.Omega.{arith}
use mathlib.Core.Path.{◌≡◌, sym, ap, ◌∙◌}
use mathlib.Core.Logic.{◌↔◌, ◌⊎◌}
use mathlib.Core.Bool.{true}
use mathlib.Core.Option.{some}
use mathlib.Core.List.{List, [], ◌++◌}
use Rattle.number.specs.BigEndian.{Bytes}
use Rattle.format.specs.declared.Form.TheVariants.{Top}
use Rattle.format.specs.declared.Stop.{Stop}
use Rattle.format.specs.Limits.{depth_limit}
use Rattle.format.specs.declared.Flaw.{Flaw}
use Rattle.format.specs.Parse.{got}
use Rattle.format.specs.Tree.{Tree}
use Rattle.format.specs.Encoding.{kind_of, encoding, WithinLimits}
use Rattle.format.specs.Reader.{Layout, tree, read, tree_of}
use Rattle.format.specs.Mask.{stop_value, flaws, counts, sum_of, padding_of, mask, Fewer, bounds_only, strict}
use Rattle.format.proofs.RoundTrip.{layout_of, tree_layout}
use Rattle.format.proofs.Masks.{counts_fewer, mask_mono, mask_bits, mask_made, stop_same}
use Rattle.format.proofs.Strict.{read_back, passes, tree_of_law, only_encodings, tree_if_bounds, bounds_if_tree}
use Rattle.format.proofs.BytesOf.{bytes_of_encoding}

-- 1. Reading gives back what was encoded: for every tree within the limits, its encoding followed by any bytes is read as that tree, with no flaw,
-- and what followed is left
pub reading_gives_back : (t : Tree depth_limit) → WithinLimits t → (r : List ℕ)
    → (l : Layout depth_limit) × (tree depth_limit l ≡ t) × (read depth_limit Top (encoding depth_limit t ++ r) ≡ got ([], (kind_of depth_limit t, l)) [] r)
reading_gives_back t w r = (layout_of depth_limit t, tree_layout depth_limit t, read_back t w r)

-- 2. Strict passes a payload exactly if it is the encoding of some tree within the limits
pub strict_exactly_encodings : (s : List ℕ) → Bytes s → (mask strict s ≡ 0) ↔ ((t : Tree depth_limit) × WithinLimits t × (s ≡ encoding depth_limit t))
strict_exactly_encodings s b = (only_encodings s b, λ x. rw x.2 (passes x.0 x.1 strict))

-- 3. Two payloads that strict passes are byte-identical exactly if the trees read from them are equal
pub equal_bytes_equal_trees : (s u : List ℕ) → Bytes s → Bytes u → mask strict s ≡ 0 → mask strict u ≡ 0 → (s ≡ u) ↔ (tree_of s ≡ tree_of u)
equal_bytes_equal_trees s u b c h k = (λ e. ap tree_of e, back)
  where
    back : tree_of s ≡ tree_of u → s ≡ u
    back e =
        let i = only_encodings s b h in
        let j = only_encodings u c k in
        let z : some i.0 ≡ some j.0 = cc (tree_of_law i.0 i.1, tree_of_law j.0 j.1) in
        let y : i.0 ≡ j.0 = cc in
        i.2 ∙ (ap (encoding depth_limit) y ∙ sym j.2)

-- 3. Distinct trees within the limits have distinct encodings
pub encoding_injective : (t u : Tree depth_limit) → WithinLimits t → WithinLimits u → encoding depth_limit t ≡ encoding depth_limit u → t ≡ u
encoding_injective t u v w e = let z : some t ≡ some u = cc (tree_of_law t v, tree_of_law u w) in cc

-- 4. Every encoding of a tree within the limits has mask 0 under every mode set, bounds checks alone among them; and the tree read from it is the tree encoded
pub encoding_passes : (t : Tree depth_limit) → WithinLimits t
    → ((modes : ℕ) → mask modes (encoding depth_limit t) ≡ 0) × (tree_of (encoding depth_limit t) ≡ some t)
encoding_passes t w = (passes t w, tree_of_law t w)

-- 4. and it is a list of bytes
pub encoding_bytes : (t : Tree depth_limit) → WithinLimits t → Bytes (encoding depth_limit t)
encoding_bytes t w = bytes_of_encoding depth_limit t w.within (omega (arith, w.short))

-- 5. The bounds check passes a payload, tidy or not, exactly if the reader gives a tree for it; it gives one, and it depends on no modes
pub bounds_exactly_trees : (s : List ℕ) → (mask bounds_only s ≡ 0) ↔ ((t : Tree depth_limit) × (tree_of s ≡ some t))
bounds_exactly_trees s = (tree_if_bounds s, λ x. bounds_if_tree s x.0 x.1)

pub one_tree : (s : List ℕ) (t u : Tree depth_limit) → tree_of s ≡ some t → tree_of s ≡ some u → t ≡ u
one_tree s t u e f = let z : some t ≡ some u = sym e ∙ f in cc

-- 5. The mask is one stopping fault, the same for every mode set; or it is the sum of the flaws met, each once where its mode is asked,
-- and of what is left where Padding is
pub mask_is : (s : List ℕ)
    → ((k : Stop) × ((modes : ℕ) → mask modes s ≡ stop_value k))
    ⊎ ((met : List Flaw) × (left : List ℕ) × ((modes : ℕ) → mask modes s ≡ sum_of modes met flaws + padding_of modes left))
mask_is = mask_made

-- 5. A stopping fault is the whole mask: where bounds checks alone do not pass, every mode set gives their answer
pub stop_is_whole : (s : List ℕ) → (mask bounds_only s ≡ 0 → ⊥) → (modes : ℕ) → mask modes s ≡ mask bounds_only s
stop_is_whole = stop_same

-- 5. Asking for fewer modes never adds a fault: of whatever was met, what counts under fewer modes counts under more, and the mask is no greater
pub fewer_modes : (few more : ℕ) → Fewer few more
    → ((met : List Flaw) (f : Flaw) → counts few met f ≡ true → counts more met f ≡ true) × ((s : List ℕ) → mask few s ≤ mask more s)
fewer_modes few more w = (counts_fewer few more w, λ s. mask_mono few more s w)

-- 5. Other mode bits are ignored
pub other_bits : (modes : ℕ) (s : List ℕ) → mask modes s ≡ mask (modes % 8) s
other_bits = mask_bits
