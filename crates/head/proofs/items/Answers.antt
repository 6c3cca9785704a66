use Rattle.std.proofs.Common.{arith}
use Rattle.head.proofs.HeadReturns.{count_in_law}
use Rattle.head.proofs.items.Goals as goal

pub overflow_add-result : goal.overflow_add-result
overflow_add-result c = omega (arith, count_in_law _ _ c.args.part.now c.requires.0 c.requires.1 _ c.read.ensures _ c.in_ok-count.was)
