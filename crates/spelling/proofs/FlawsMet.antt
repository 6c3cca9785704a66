-- The flaws that the reader meets are those that the layout has (specs/Flawed.antt): a second witness of each, but for `long`, which no layout shows. A layer,
-- every layer, and the mask of a payload that was read.
use Prim.Native.Nat.{ℕ, zero, suc, ◌+◌}
use mathlib.Core.Path.{◌≡◌, refl, sym, ap, subst, ◌∙◌}
use mathlib.Core.Bool.{Bool, true, false, ◌&&◌, ◌||◌, or-false, or-true, or_assoc, or_comm}
use mathlib.Core.List.{List, [], ◌∷◌, map}
use lib.ListN.{length}
use Rattle.format.specs.declared.Kind.{Kind}
use Rattle.format.specs.declared.Kind.TheVariants.{Object, Array}
use Rattle.format.specs.declared.Form.{Form}
use Rattle.format.specs.declared.Form.TheVariants.{Top}
use Rattle.format.specs.Kinds.{same, any, is_uniform, is_uniform_array}
use Rattle.format.specs.declared.Flaw.{Flaw}
use Rattle.format.specs.declared.Flaw.TheVariants.{Twin, Blank, Long, Low, Wide, NotUtf8, NotUniform}
use Rattle.format.specs.Parse.{got, many, fill}
use Rattle.format.specs.Names.{twins}
use Rattle.format.specs.Tree.{Node, atom, array, object, map_node}
use Rattle.format.specs.Payload.{Head, value, fields_in, items_in, front, head}
use Rattle.format.specs.Reader.{Standing, Named, Layout, Reader, kinds_in, names_in, is_typed, as_array, as_object, contents, read_node, read_field, read}
use Rattle.format.specs.Limits.{depth_limit}
use Rattle.format.specs.Mask.{has, flaws, sum_of, padding_of, mask, bounds_only}
use Rattle.places.specs.Show.{ShownPayload}
use Rattle.format.proofs.Lists.{map_map}
use Rattle.format.proofs.Masks.{mask_case, mask_short}
use Rattle.format.proofs.Strict.{bounds_if_tree}
use Rattle.spelling.specs.Flawed.{inside, Part, parts, flawed_part, flawed, sum_where, shown_flaw}
use Rattle.spelling.proofs.AnyLaws.{any_flat, any_both, any_map}
use Rattle.spelling.proofs.Tells.{is, Tells, Adds, tells_got, tells_bind, tells_raise, tells_make, tells_whole, tells_as, tells_many, tells_fill}
use Rattle.spelling.proofs.FlawedParts.{array_is, name_flawed, object_is}
use Rattle.spelling.proofs.FlawsOfHeads.{is_named, front_flawed, HeadTells, tells_front, tells_head}

module _ (f : Flaw) (shows : is f Long ≡ false) where
  module _ {X : Type 0} (p : Reader X) (q : Standing X → Bool) where
    abbrev field_flawed : Form → Named (Standing X) → Bool
    field_flawed g x = (is_named g && name_flawed f x.0) || q x.1

    abbrev node_flawed : Kind → Node (Standing X) → Bool
    node_flawed k n = flawed_part f k (map_node (λ y. y.0) n) || any q (inside n)

    module _ (met : (g : Form) (c : Bool) (s : List ℕ) → Tells f c (Adds c (field_flawed g)) (p g s)) where
      items_flawed : (k : Kind) (g : Form) (c : Bool) (xs : List (Named (Standing X))) → is_named g ≡ false → is_typed g ≡ same k Array → same k Object ≡ false
          → (c || any (field_flawed g) xs || (is f NotUniform && (is_typed g && is_uniform_array (kinds_in xs)))) ≡ (c || node_flawed k (array (map (λ x. x.1) xs)))
      items_flawed k g c xs n t o =
          let a : any (field_flawed g) xs ≡ any q (map (λ x. x.1) xs) = any_map (field_flawed g) q (λ x. x.1) (λ x. rw n) xs in
          let m : map (λ (y : Standing X). y.0) (map (λ (x : Named (Standing X)). x.1) xs) ≡ kinds_in xs = map_map _ _ _ (λ x. refl) xs in
          rw (a, m, array_is f k (kinds_in xs) o, t) (or_assoc c _ _ ∙ ap (λ z. c || z) (or_comm (any q (map (λ x. x.1) xs)) _))

      fields_flawed : (k : Kind) (g : Form) (c : Bool) (xs : List (Named (Standing X))) → is_named g ≡ true → is_typed g ≡ same k Object → same k Array ≡ false
          → (c || any (field_flawed g) xs || (is f NotUniform && (is_typed g && is_uniform (kinds_in xs))) || (is f Twin && twins (names_in xs))) ≡
          (c || node_flawed k (object xs))
      fields_flawed k g c xs n t o =
          let ys : List (Named Kind) = map (λ (x : Named (Standing X)). (x.0, x.1.0)) xs in
          let a : any (field_flawed g) xs ≡ (any (λ (x : Named (Standing X)). is_named g && name_flawed f x.0) xs || any
          (λ (x : Named (Standing X)). q x.1) xs) = any_both (λ (x : Named (Standing X)). is_named g && name_flawed f x.0) (λ x. q x.1) xs in
          let b : any (λ (x : Named (Standing X)). is_named g && name_flawed f x.0) xs ≡ any (λ (x : Named Kind). name_flawed f x.0) ys = any_map _
          (λ (x : Named Kind). name_flawed f x.0) (λ x. (x.0, x.1.0)) (λ x. rw n) xs in
          let d : any (λ (x : Named (Standing X)). q x.1) xs ≡ any q (map (λ x. x.1) xs) = any_map _ q (λ x. x.1) (λ x. refl) xs in
          let m : map (λ (x : Named Kind). x.1) ys ≡ kinds_in xs = map_map _ _ _ (λ x. refl) xs in
          let l : names_in ys ≡ names_in xs = map_map _ _ _ (λ x. refl) xs in
          rw (a, b, d, object_is f k ys o, m, l, t) (go c (any (λ (x : Named Kind). name_flawed f x.0) ys) (any q (map (λ x. x.1) xs)) _ _)
        where
          go : (c a b u t : Bool) → (c || (a || b) || u || t) ≡ (c || (a || u || t || b))
          go true a b u t = refl
          go false true b u t = refl
          go false false true u t = sym (or-true (u || t))
          go false false false u t = sym (or-false (u || t))

      tells_contents : (k : Kind) (c d : Bool) (h : Head) → HeadTells f k c h d → Tells f d (Adds c (node_flawed k)) (contents p h)
      tells_contents k c d (value v) i = tells_got f d (Adds c (node_flawed k)) (atom v) [] (rw (or-false (flawed_part f k (atom v))) i)
      tells_contents k c d (items_in g n s) i =
          tells_bind f d (Adds d (any (field_flawed g))) _ (many (p g) n s) (as_array g) (tells_many f (field_flawed g) (p g) (met g) n d s) λ xs r b e.
          tells_raise f b _ (is_typed g && is_uniform_array (kinds_in xs)) NotUniform _
          (tells_got f _ (Adds c (node_flawed k)) (array (map (λ x. x.1) xs)) r (rw (e, i.0) (items_flawed k g c xs i.1 i.2 i.3)))
      tells_contents k c d (fields_in g s) i =
          tells_bind f d (Adds d (any (field_flawed g))) _ (fill (p g) (length s) s) (as_object g)
          (tells_fill f (field_flawed g) (p g) (met g) (length s) d s) λ xs r b e.
          tells_raise f b _ (is_typed g && is_uniform (kinds_in xs)) NotUniform _
          (tells_raise f _ _ (twins (names_in xs)) Twin _
          (tells_got f _ (Adds c (node_flawed k)) (object xs) r (rw (e, i.0) (fields_flawed k g c xs i.1 i.2 i.3))))

      tells_node : (k : Kind) (c : Bool) (s : List ℕ) → Tells f c (Adds c (node_flawed k)) (read_node p k s)
      tells_node k c s =
          tells_bind f c (HeadTells f k c) _ (head k s) _ (tells_head f shows k c s) λ h r d i. tells_whole f d _ (contents p h) r (tells_contents k c d h i)

      tells_field : (g : Form) (c : Bool) (s : List ℕ)
          → Tells f c (Adds c (λ x. (is_named g && name_flawed f x.0) || node_flawed x.1.0 x.1.1)) (read_field p g s)
      tells_field g c s = tells_bind f c (Adds c (front_flawed f g)) _ (front g s) _ (tells_front f shows g c s) λ x r b e.
          tells_make f b _ (λ t. (x.0, (x.1, t))) (read_node p x.1 r)
          (tells_as f b (Adds b (node_flawed x.1)) _ (read_node p x.1 r)
          (λ t d i. i ∙ (ap (λ z. z || node_flawed x.1 t) e ∙ or_assoc c (front_flawed f g x) (node_flawed x.1 t))) (tells_node x.1 b r))

  -- ---- every layer

  tells_read : (d : ℕ) (g : Form) (c : Bool) (s : List ℕ) → Tells f c (Adds c (field_flawed (read d) (flawed f d) g)) (read d g s)
  unfolding read
  tells_read zero g c s = record { says = tt }
  tells_read (suc d) g c s =
      tells_as f c _ _ (read_field (read d) g s) (λ x b e. rw (any_flat (λ (y : Part). flawed_part f y.0 y.1) (parts d) (inside x.1.1)) e)
      (tells_field (read d) (flawed f d) (tells_read d) g c s)

  -- of what was read, the flaw was met exactly if the layout has it
  pub met_is_flawed : (d : ℕ) (s : List ℕ) (x : Named (Standing (Layout d))) (fs : List Flaw) (r : List ℕ) → read d Top s ≡ got x fs r
      → has f fs ≡ flawed f d x.1
  met_is_flawed d s x fs r h = (subst (λ o. Tells f false (Adds false (field_flawed (read d) (flawed f d) Top)) o) h (tells_read d Top false s)).says

-- ---- of a payload

-- the mask is the sum of what was met
pub mask_of_shown : (s : List ℕ) (i : ShownPayload s) (modes : ℕ) → mask modes s ≡ sum_of modes i.flaws flaws + padding_of modes i.left
mask_of_shown s i modes = mask_case bounds_only s (bounds_if_tree s _ i.its_tree) λ l _. rw (mask_short modes s l, i.was_read)

-- each flaw but `long` was met exactly if the layout has it
pub flaws_of_read : (d : ℕ) (s : List ℕ) (x : Named (Standing (Layout d))) (fs : List Flaw) (r : List ℕ) → read d Top s ≡ got x fs r → (f : Flaw)
    → has f fs ≡ shown_flaw d x.1 (has Long fs) f
flaws_of_read d s x fs r e Twin = met_is_flawed Twin refl d s x fs r e
flaws_of_read d s x fs r e Blank = met_is_flawed Blank refl d s x fs r e
flaws_of_read d s x fs r e Long = refl
flaws_of_read d s x fs r e Low = met_is_flawed Low refl d s x fs r e
flaws_of_read d s x fs r e Wide = met_is_flawed Wide refl d s x fs r e
flaws_of_read d s x fs r e NotUtf8 = met_is_flawed NotUtf8 refl d s x fs r e
flaws_of_read d s x fs r e NotUniform = met_is_flawed NotUniform refl d s x fs r e

pub flaws_are : (s : List ℕ) (i : ShownPayload s) (f : Flaw) → has f i.flaws ≡ shown_flaw depth_limit (i.kind, i.layout) (has Long i.flaws) f
flaws_are s i f = flaws_of_read depth_limit s _ _ _ i.was_read f

pub sum_where_law : (modes : ℕ) (met : List Flaw) (so : Flaw → Bool) → ((f : Flaw) → has f met ≡ so f) → (fs : List Flaw)
    → sum_of modes met fs ≡ sum_where modes so fs
sum_where_law modes met so h [] = refl
sum_where_law modes met so h (f ∷ fs) = rw (h f, sum_where_law modes met so h fs)

-- so the mask of a payload that was read is told by its layout, by what is left, and by whether a VarUInt is not minimal
pub mask_of_layout : (s : List ℕ) (i : ShownPayload s) (modes : ℕ)
    → mask modes s ≡ sum_where modes (shown_flaw depth_limit (i.kind, i.layout) (has Long i.flaws)) flaws + padding_of modes i.left
mask_of_layout s i modes = mask_of_shown s i modes ∙ ap (λ n. n + padding_of modes i.left) (sum_where_law modes i.flaws _ (flaws_are s i) flaws)
