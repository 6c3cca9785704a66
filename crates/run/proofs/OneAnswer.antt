-- No second answer, for the run of kinds.
use Prim.Native.Nat.{ℕ}
use mathlib.Core.Bool.{Bool}
use Rattle.number.proofs.OneAnswer.{One, one}
use Rattle.format.specs.declared.Kind.{Kind}
use Rattle.format.specs.Kinds.{id}
use Rattle.run.specs.Run.{join, uniform}

module _ (shared : ℕ) where
  pub join_one : (id : ℕ) → One (join shared id)
  join_one id = one (join shared id)

  pub add_one : (kind : Kind) → One (join shared (id kind))
  add_one kind = one (join shared (id kind))

  pub is_uniform_one : (named : Bool) → One (uniform named shared)
  is_uniform_one named = one (uniform named shared)
