use Rattle.std.proofs.Common.{rules, arith}
use Rattle.front.proofs.BetweenLaws.{part_cons}
use Rattle.head.proofs.shared_byte.Goals as goal

pub returns-in_err-kind : goal.returns-in_err-kind
returns-in_err-kind c = rw (part_cons c.args.at c.args.end c.args.part.now (omega arith) (omega arith)) (search rules)

pub returns-then-count-lt1 : goal.returns-then-count-lt1
returns-then-count-lt1 c = rw (part_cons c.args.at c.args.end c.args.part.now (omega arith) (omega arith)) (search rules)

pub returns-then-is_bare : goal.returns-then-is_bare
returns-then-is_bare c = rw (part_cons c.args.at c.args.end c.args.part.now (omega arith) (omega arith)) (search rules)

pub returns : goal.returns
returns c = rw (part_cons c.args.at c.args.end c.args.part.now (omega arith) (omega arith)) (search rules)
