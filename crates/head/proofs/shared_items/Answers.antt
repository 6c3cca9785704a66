use Rattle.std.proofs.Common.{arith}
use Rattle.head.proofs.HeadReturns.{count_in_law, shared_whole}
use Rattle.head.proofs.shared_items.Goals as goal

pub overflow_add-begin : goal.overflow_add-begin
overflow_add-begin c = omega (arith, count_in_law _ _ c.args.part.now c.requires.0 c.requires.1 _ c.read.ensures _ c.in_ok-count.was)

pub shared_byte-requires : goal.shared_byte-requires
shared_byte-requires c = (count_in_law _ _ c.args.part.now c.requires.0 c.requires.1 _ c.read.ensures _ c.in_ok-count.was, c.requires.1)

pub returns : goal.returns
returns c =
    shared_whole _ _ c.args.part.now c.requires.0 c.requires.1 _ c.read.ensures _ c.in_ok-count.was _ _ _ _ c.note.ensures c.shared_byte.ensures
