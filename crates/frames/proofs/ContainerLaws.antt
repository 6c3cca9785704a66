-- An object and an array in the form in which both passes see them are those that format encodes; and their sizes.
use Prim.Native.Nat.{ℕ, suc, ◌+◌, ◌≤◌}
use native.Mathlib.Omega.{arith}
use native.Mathlib.Nat.{zero-add}
use mathlib.Core.Path.{◌≡◌, refl, sym, ap, ◌∙◌}
use mathlib.Core.Bool.{Bool, true, false, not, cond}
use mathlib.Core.List.{List, [], ◌∷◌, ◌++◌, map}
use lib.ListN.{length, length-append}
use Rattle.number.specs.VarUInt.{encoded}
use Rattle.format.specs.declared.Kind.{Kind}
use Rattle.format.specs.declared.Mark.TheVariants.{OfField, OfItem, SharedByFields, SharedByItems}
use Rattle.format.specs.Kinds.{id, flags, type_byte}
use Rattle.format.specs.Encoding.{with_size, concat, items, fields, array_body, object_body, node_payload, node_sizes}
use Rattle.frames.specs.Container.{node_of, ids, count_part, shared_mark, shared_part, type_part, name_part, field_part, body, size_by, packed, node_packs}
use Rattle.run.specs.Run.{shared, uniform}
use Rattle.number.proofs.VarUIntLaws.{encoded_length}
use Rattle.frames.proofs.SharedLaws.{object_uniform, map_second, array_uniform, shared_byte_law}

-- ---- the contents

concat_map : {A B : Type 0} (f : B → List ℕ) (g : A → B) (xs : List A) → concat f (map g xs) ≡ concat (λ x. f (g x)) xs
concat_map f g [] = refl
concat_map f g (x ∷ xs) = rw (concat_map f g xs)

length_map : {A B : Type 0} (g : A → B) (xs : List A) → length (map g xs) ≡ length xs
length_map g [] = refl
length_map g (x ∷ xs) = ap suc (length_map g xs)

module _ {A : Type 0} (kind : A → Kind) (pay : A → List ℕ) where
  pub object_body_law : (xs : List (List ℕ × A)) → object_body kind pay xs ≡ body true kind pay xs
  unfolding count_part shared_part type_part name_part
  object_body_law xs = rw (object_uniform kind xs) (go (uniform true (shared (ids kind xs))) refl)
    where
      go : (u : Bool) → uniform true (shared (ids kind xs)) ≡ u → fields u kind pay xs
          ≡ cond u ((flags SharedByFields + shared (ids kind xs)) ∷ []) []
          ++ concat (λ x. cond (not u) (type_byte OfField (kind x.1) ∷ []) [] ++ (with_size x.0 ++ pay x.1)) xs
      go true h = rw (shared_byte_law kind true SharedByFields xs h)
      go false h = refl

  pub array_body_law : (xs : List (List ℕ × A)) → array_body kind pay (map (λ x. x.1) xs) ≡ body false kind pay xs
  unfolding count_part shared_part type_part name_part
  array_body_law xs = rw (array_uniform kind xs, length_map (λ (x : List ℕ × A). x.1) xs)
      (ap (λ (t : List ℕ). encoded (length xs) ++ t) (go (uniform false (shared (ids kind xs))) refl))
    where
      go : (u : Bool) → uniform false (shared (ids kind xs)) ≡ u → items u kind pay (map (λ x. x.1) xs)
          ≡ cond u ((flags SharedByItems + shared (ids kind xs)) ∷ []) []
          ++ concat (λ x. cond (not u) (type_byte OfItem (kind x.1) ∷ []) [] ++ pay x.1) xs
      go true h = rw (map_second kind xs, shared_byte_law kind false SharedByItems xs h, concat_map pay (λ (x : List ℕ × A). x.1) xs)
      go false h = concat_map (λ x. type_byte OfItem (kind x) ∷ pay x) (λ (x : List ℕ × A). x.1) xs

  pub node_payload_law : (named : Bool) (xs : List (List ℕ × A)) → node_payload kind pay (node_of named xs) ≡ with_size (body named kind pay xs)
  node_payload_law true xs = ap with_size (object_body_law xs)
  node_payload_law false xs = ap with_size (array_body_law xs)

  map_ids : (xs : List (List ℕ × A)) → map (λ x. id (kind x)) (map (λ x. x.1) xs) ≡ ids kind xs
  map_ids [] = refl
  map_ids (x ∷ xs) = rw (map_ids xs)

  pub node_packs_law : (packs : A → List ℕ) (named : Bool) (xs : List (List ℕ × A))
      → node_packs kind pay packs (node_of named xs) ≡ packed named (shared (ids kind xs)) (length xs) (length (body named kind pay xs))
      ∷ concat (λ x. packs x.1) xs
  node_packs_law packs true xs =
      ap (λ (z : List ℕ). packed true (shared (ids kind xs)) (length xs) (length z) ∷ concat (λ (x : List ℕ × A). packs x.1) xs) (object_body_law xs)
  node_packs_law packs false xs =
      ap (λ (z : List ℕ). packed false (shared (map (λ x. id (kind x)) (map (λ (x : List ℕ × A). x.1) xs))) (length (map (λ (x : List ℕ × A). x.1) xs))
      (length z) ∷ concat packs (map (λ (x : List ℕ × A). x.1) xs)) (array_body_law xs)
      ∙ rw (map_ids xs, length_map (λ (x : List ℕ × A). x.1) xs, concat_map packs (λ (x : List ℕ × A). x.1) xs)

  pub node_sizes_law : (sizes : A → List ℕ) (named : Bool) (xs : List (List ℕ × A))
      → node_sizes kind pay sizes (node_of named xs) ≡ length (body named kind pay xs) ∷ concat (λ x. sizes x.1) xs
  node_sizes_law sizes true xs = ap (λ (z : List ℕ). length z ∷ concat (λ (x : List ℕ × A). sizes x.1) xs) (object_body_law xs)
  node_sizes_law sizes false xs =
      rw (concat_map sizes (λ (x : List ℕ × A). x.1) xs) (ap (λ (z : List ℕ). length z ∷ concat (λ (x : List ℕ × A). sizes x.1) xs) (array_body_law xs))

  -- ---- how long

  abbrev pub plain : Bool → List (List ℕ × A) → List ℕ
  plain named xs = concat (λ x. name_part named x.0 ++ pay x.1) xs

  typed_length : (named : Bool) (u : Bool) (xs : List (List ℕ × A))
      → length (concat (field_part named (not u) kind pay) xs) ≡ cond u 0 (length xs) + length (plain named xs)
  unfolding type_part
  typed_length named true xs = sym (zero-add (length (plain named xs)))
  typed_length named false [] = refl
  typed_length named false (x ∷ xs) = simp length-append (omega (arith, typed_length named false xs))

  pub body_length : (named : Bool) (xs : List (List ℕ × A))
      → length (body named kind pay xs) ≡ size_by named (shared (ids kind xs)) (length xs) (length (plain named xs))
  unfolding size_by shared_part
  body_length named xs =
      rw (length-append, length-append, typed_length named (uniform named (shared (ids kind xs))) xs) (go (uniform named (shared (ids kind xs))))
    where
      go : (u : Bool) → length (count_part named (length xs)) + (length (cond u ((flags (shared_mark named) + shared (ids kind xs)) ∷ []) [])
          + (cond u 0 (length xs) + length (plain named xs))) ≡ length (count_part named (length xs)) + cond u 1 (length xs) + length (plain named xs)
      go true = omega arith
      go false = omega arith

  pub payload_length : (named : Bool) (xs : List (List ℕ × A))
      → length (node_payload kind pay (node_of named xs)) ≡ length (encoded (length (body named kind pay xs))) + length (body named kind pay xs)
  payload_length named xs = ap length (node_payload_law named xs) ∙ length-append (encoded (length (body named kind pay xs))) (body named kind pay xs)

pub count_le : (b : Bool) (n : ℕ) → length (count_part b n) ≤ 9
unfolding count_part
count_le true n = omega arith
count_le false n = (encoded_length n).1

pub size_le : (named : Bool) (c n sum : ℕ) → size_by named c n sum ≤ 10 + n + sum
unfolding size_by
size_le named c n sum = go (uniform named c)
  where
    go : (u : Bool) → length (count_part named n) + cond u 1 n + sum ≤ 10 + n + sum
    go true = omega (arith, count_le named n)
    go false = omega (arith, count_le named n)
