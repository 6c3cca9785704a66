-- No second answer, for containers and their work numbers.
use Prim.Native.Nat.{ℕ}
use mathlib.Core.Bool.{Bool}
use mathlib.Core.List.{List}
use lib.ListN.{get_or, set}
use Rattle.number.proofs.OneAnswer.{One, one}
use Rattle.format.specs.Kinds.{flags}
use Rattle.frames.specs.Container.{container_id, type_mark, shared_mark, size_by, packed, size_in, width_in, shared_in, uniform_in}
use Rattle.container.specs.Numbers.{cleared}

module _ (named : Bool) where
  pub container_id_one : (u : Bool) → One (container_id named u)
  container_id_one u = one (container_id named u)

  pub type_flags_one : One (flags (type_mark named))
  type_flags_one = one (flags (type_mark named))

  pub shared_flags_one : One (flags (shared_mark named))
  shared_flags_one = one (flags (shared_mark named))

  pub size_of_one : (shared count sum : ℕ) → One (size_by named shared count sum)
  size_of_one shared count sum = one (size_by named shared count sum)

  pub pack_one : (shared count size : ℕ) → One (packed named shared count size)
  pack_one shared count size = one (packed named shared count size)

module _ (x : ℕ) where
  pub size_in_one : One (size_in x)
  size_in_one = one (size_in x)

  pub width_in_one : One (width_in x)
  width_in_one = one (width_in x)

  pub shared_in_one : One (shared_in x)
  shared_in_one = one (shared_in x)

  pub is_uniform_in_one : One (uniform_in x)
  is_uniform_in_one = one (uniform_in x)

module _ (work : List ℕ) where
  pub store_one : (k x : ℕ) → One (set work k x)
  store_one k x = one (set work k x)

  pub number_at_one : (k : ℕ) → One (get_or work k 0)
  number_at_one k = one (get_or work k 0)

  pub clear_one : One (cleared work)
  clear_one = one (cleared work)
