-- What the theorems of Spelling.antt rest on: an encoding within the limits is read with no flaw, and what strict passes is one.
use Prim.Native.Nat.{ℕ, ◌≤◌}
use native.Mathlib.Omega.{arith}
use mathlib.Core.Path.{◌≡◌, refl}
use mathlib.Core.Bool.{Bool, true, false, cond}
use mathlib.Core.Option.{none, some}
use mathlib.Core.List.{List, [], ◌∷◌, ◌++◌}
use lib.ListN.{length}
use lib.Dec.{ltb}
use borrow.Author.Tests.{le-ltb, ltb-false}
use Rattle.number.proofs.Clash.{clash}
use Rattle.number.specs.BigEndian.{Bytes}
use Rattle.format.specs.declared.Form.TheVariants.{Top}
use Rattle.format.specs.Limits.{depth_limit, length_limit}
use Rattle.format.specs.Parse.{Out, fault, got}
use Rattle.format.specs.Tree.{Tree}
use Rattle.format.specs.Encoding.{kind_of, encoding, WithinLimits}
use Rattle.format.specs.Reader.{tree, read, tree_in, tree_of}
use Rattle.format.specs.Mask.{mask, bounds_only, strict}
use Rattle.format.proofs.Lists.{append_nil}
use Rattle.format.proofs.RoundTrip.{layout_of, tree_layout, read_encoding, read_only}
use Rattle.format.proofs.Masks.{mask_clean, strict_case, mask_case, mask_short, bounds_case}

module _ (t : Tree depth_limit) (w : WithinLimits t) where
  pub read_back : (r : List ℕ) → read depth_limit Top (encoding depth_limit t ++ r) ≡ got ([], (kind_of depth_limit t, layout_of depth_limit t)) [] r
  read_back r = read_encoding depth_limit t r w.within (omega (arith, w.short))

  pub read_whole : read depth_limit Top (encoding depth_limit t) ≡ got ([], (kind_of depth_limit t, layout_of depth_limit t)) [] []
  read_whole = rw append_nil at (read_back [])

  pub passes : (modes : ℕ) → mask modes (encoding depth_limit t) ≡ 0
  passes modes = rw (mask_short modes (encoding depth_limit t) w.short, read_whole) (mask_clean modes)

  pub tree_of_law : tree_of (encoding depth_limit t) ≡ some t
  unfolding tree_of
  tree_of_law = rw (le-ltb length_limit (length (encoding depth_limit t)) w.short, read_whole, tree_layout depth_limit t)

pub only_encodings : (s : List ℕ) → Bytes s → mask strict s ≡ 0 → (t : Tree depth_limit) × WithinLimits t × (s ≡ encoding depth_limit t)
only_encodings s b h = mask_case strict s h λ l m. strict_case (read depth_limit Top s) m λ x e.
    let i = read_only depth_limit s x b e in
    (i.0, record { within = i.1; short = rw i.2 at l }, i.2)

-- ---- bounds checks alone

pub tree_if_bounds : (s : List ℕ) → mask bounds_only s ≡ 0 → (t : Tree depth_limit) × (tree_of s ≡ some t)
unfolding tree_of
tree_if_bounds s h =
    mask_case bounds_only s h λ l m. bounds_case (read depth_limit Top s) m λ x fs r e. (tree depth_limit x.1.1, rw (le-ltb length_limit (length s) l, e))

pub bounds_if_tree : (s : List ℕ) (t : Tree depth_limit) → tree_of s ≡ some t → mask bounds_only s ≡ 0
unfolding tree_of
bounds_if_tree s t h = long_or (ltb length_limit (length s)) refl h
  where
    read_or : (o : Out _) → read depth_limit Top s ≡ o → length s ≤ length_limit → tree_in o ≡ some t → mask bounds_only s ≡ 0
    read_or (fault k) e l h = clash cc
    read_or (got x fs []) e l h = rw (mask_short bounds_only s l, e)
    read_or (got x fs (b ∷ r)) e l h = rw (mask_short bounds_only s l, e)

    long_or : (b : Bool) → ltb length_limit (length s) ≡ b → cond b none (tree_in (read depth_limit Top s)) ≡ some t → mask bounds_only s ≡ 0
    long_or true l h = clash cc
    long_or false l h = read_or (read depth_limit Top s) refl (ltb-false length_limit (length s) l) h
