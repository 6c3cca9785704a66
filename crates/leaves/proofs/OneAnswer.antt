-- No second answer, for leaves.
use Prim.Native.Nat.{ℕ}
use mathlib.Core.List.{List}
use Rattle.number.specs.VarUInt.{var_uint}
use Rattle.number.proofs.OneAnswer.{One, one}
use Rattle.faults.specs.declared.Modes.{Modes}
use Rattle.faults.specs.declared.Faults.{Faults}
use Rattle.front.specs.Pieces.{text_at}
use Rattle.leaves.specs.Pieces.{fixed_at, positive_of, negative_of, double_at, leaf_of, id_of, name_of}

pub fixed_one : (size : ℕ) (faults : Faults) (part : List ℕ) → One (fixed_at size faults part)
fixed_one size faults part = one (fixed_at size faults part)

module _ (modes : Modes) (faults : Faults) (part : List ℕ) where
  pub positive_one : One (positive_of modes faults (var_uint part))
  positive_one = one (positive_of modes faults (var_uint part))

  pub negative_one : One (negative_of modes faults (var_uint part))
  negative_one = one (negative_of modes faults (var_uint part))

  pub float64_one : One (double_at modes faults part)
  float64_one = one (double_at modes faults part)

  pub text_leaf_one : One (leaf_of (text_at modes faults part))
  text_leaf_one = one (leaf_of (text_at modes faults part))

  pub custom_by_id_one : (end : ℕ) → One (id_of modes faults end (var_uint part))
  custom_by_id_one end = one (id_of modes faults end (var_uint part))

  pub custom_by_name_one : (end : ℕ) → One (name_of end (text_at modes faults part))
  custom_by_name_one end = one (name_of end (text_at modes faults part))
