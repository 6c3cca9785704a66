use mathlib.Core.Path.{refl}
use Rattle.head.proofs.HeadReturns.{head_behind}
use Rattle.head.proofs.header_of.Goals as goal

pub returns-in-Behind : goal.returns-in-Behind
returns-in-Behind c = head_behind _ _ _ _ _ _ c.class_of.ensures _ c.in-Behind.is c.behind.ensures
