-- The ID that the fields of a container share: of one more field, and what it says of the container.
use Prim.Native.Nat.{ℕ, ◌+◌}
use mathlib.Core.Path.{◌≡◌, refl, sym, ap, ◌∙◌}
use mathlib.Core.Bool.{Bool, true, false, cond}
use mathlib.Core.List.{List, [], ◌∷◌, ◌++◌, map, append_assoc}
use lib.Dec.{eqb}
use Rattle.format.specs.declared.Kind.{Kind}
use Rattle.format.specs.declared.Kind.TheVariants.{Object, UniformObject, Array, UniformArray}
use Rattle.format.specs.declared.Mark.{Mark}
use Rattle.format.specs.Kinds.{id, flags, all, is_uniform, is_uniform_array}
use Rattle.format.specs.Encoding.{concat, shared_byte, item_kinds, field_kinds, node_kind}
use Rattle.format.proofs.Lists.{append_nil}
use Rattle.run.specs.Run.{shared, run_of, join, uniform}
use Rattle.run.proofs.RunLaws.{run_snoc, run_uniform, run_uniform_array}
use Rattle.frames.specs.Container.{node_of, ids, container_id}
use Rattle.frames.proofs.Flaws.{untrue}

-- ---- one more field

pub concat_snoc : {A : Type 0} (f : A → List ℕ) (xs : List A) (x : A) → concat f (xs ++ (x ∷ [])) ≡ concat f xs ++ f x
concat_snoc f [] x = append_nil (f x)
concat_snoc f (y ∷ xs) x = rw (concat_snoc f xs x, append_assoc)

map_snoc : {A B : Type 0} (f : A → B) (xs : List A) (x : A) → map f (xs ++ (x ∷ [])) ≡ map f xs ++ (f x ∷ [])
map_snoc f [] x = refl
map_snoc f (y ∷ xs) x = rw (map_snoc f xs x)

module _ {A : Type 0} (kind : A → Kind) where
  -- what the fields share is the run of their kinds
  ids_run : (xs : List (List ℕ × A)) → shared (ids kind xs) ≡ run_of (field_kinds kind xs)
  ids_run xs = ap shared (go xs)
    where
      go : (xs : List (List ℕ × A)) → ids kind xs ≡ map id (field_kinds kind xs)
      go [] = refl
      go (x ∷ xs) = rw (go xs)

  pub shared_snoc : (xs : List (List ℕ × A)) (x : List ℕ × A) → shared (ids kind (xs ++ (x ∷ []))) ≡ join (shared (ids kind xs)) (id (kind x.1))
  shared_snoc xs x =
      ids_run (xs ++ (x ∷ []))
      ∙ ap run_of (map_snoc (λ (y : List ℕ × A). kind y.1) xs x)
      ∙ run_snoc (field_kinds kind xs) (kind x.1)
      ∙ ap (λ c. join c (id (kind x.1))) (sym (ids_run xs))

  -- ---- uniform

  pub object_uniform : (xs : List (List ℕ × A)) → is_uniform (field_kinds kind xs) ≡ uniform true (shared (ids kind xs))
  object_uniform xs = sym (run_uniform (field_kinds kind xs)) ∙ ap (uniform true) (sym (ids_run xs))

  pub map_second : (xs : List (List ℕ × A)) → item_kinds kind (map (λ x. x.1) xs) ≡ field_kinds kind xs
  map_second [] = refl
  map_second (x ∷ xs) = rw (map_second xs)

  pub array_uniform : (xs : List (List ℕ × A)) → is_uniform_array (item_kinds kind (map (λ x. x.1) xs)) ≡ uniform false (shared (ids kind xs))
  array_uniform xs = ap is_uniform_array (map_second xs) ∙ sym (run_uniform_array (field_kinds kind xs)) ∙ ap (uniform false) (sym (ids_run xs))

  pub node_id : (named : Bool) (xs : List (List ℕ × A)) → id (node_kind kind (node_of named xs)) ≡ container_id named (uniform named (shared (ids kind xs)))
  unfolding container_id
  node_id true xs = rw (object_uniform xs) (go (uniform true (shared (ids kind xs))))
    where
      go : (u : Bool) → id (cond u UniformObject Object) ≡ cond u 3 2
      go true = refl
      go false = refl
  node_id false xs = rw (array_uniform xs) (go (uniform false (shared (ids kind xs))))
    where
      go : (u : Bool) → id (cond u UniformArray Array) ≡ cond u 5 4
      go true = refl
      go false = refl

  -- the shared byte of a uniform container
  pub shared_byte_law : (named : Bool) (m : Mark) (xs : List (List ℕ × A)) → uniform named (shared (ids kind xs)) ≡ true
      → shared_byte m (field_kinds kind xs) ≡ (flags m + shared (ids kind xs)) ∷ []
  unfolding shared uniform
  shared_byte_law named m [] h = untrue h
  shared_byte_law named m (x ∷ xs) h = go (all (eqb (id (kind x.1))) (ids kind xs)) h
    where
      go : (b : Bool) → uniform named (cond b (id (kind x.1)) 255) ≡ true
          → (flags m + id (kind x.1)) ∷ [] ≡ (flags m + cond b (id (kind x.1)) 255) ∷ []
      go true h = refl
      go false h = untrue h
