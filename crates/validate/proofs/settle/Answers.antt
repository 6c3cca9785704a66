use native.Mathlib.Omega.{arith}
use Rattle.validate.proofs.MaskCases.{mask_stop, mask_fits, mask_read}
use Rattle.validate.proofs.settle.Goals as goal

pub overflow_cast-result : goal.overflow_cast-result
overflow_cast-result c = omega (arith, mask_fits _ _ c.requires.0 _ c.requires.1 _ c.in-Ok.is _ c.sum_of.ensures)

pub overflow_add-result : goal.overflow_add-result
overflow_add-result c = omega (arith, c.value_if.ensures.1, mask_fits _ _ c.requires.0 _ c.requires.1 _ c.in-Ok.is _ c.sum_of.ensures)

pub returns-in-Err : goal.returns-in-Err
returns-in-Err c = mask_stop _ _ c.requires.0 _ c.requires.1 _ c.in-Err.is _ c.stop_value.ensures

pub returns-in-Ok : goal.returns-in-Ok
returns-in-Ok c = mask_read _ _ c.requires.0 _ c.requires.1 _ c.in-Ok.is _ c.is_asked.ensures _ _ c.sum_of.ensures c.value_if.ensures.0
