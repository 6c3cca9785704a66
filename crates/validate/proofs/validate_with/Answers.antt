use native.Mathlib.Omega.{arith}
use Rattle.validate.proofs.MaskCases.{top_with_law, cleared_with}
use Rattle.validate.proofs.validate_with.Goals as goal

pub settle-requires : goal.settle-requires
settle-requires c = (omega arith, top_with_law _ _ _ (omega arith) _ c.asked.ensures _ _ c.check_with.ensures)

pub returns-then-is_asked : goal.returns-then-is_asked
returns-then-is_asked c = cleared_with _ _ _ _ c.settle.ensures _ _ _ c.check_with.ensures
