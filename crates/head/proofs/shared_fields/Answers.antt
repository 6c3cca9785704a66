use Rattle.std.proofs.Common.{rules, arith}
use Rattle.front.proofs.BetweenLaws.{part_cons}
use Rattle.head.proofs.shared_fields.Goals as goal

pub returns-in_err-kind : goal.returns-in_err-kind
returns-in_err-kind c = rw (part_cons c.args.begin c.args.end c.args.part.now (omega arith) (omega arith)) (search rules)

pub returns : goal.returns
returns c = rw (part_cons c.args.begin c.args.end c.args.part.now (omega arith) (omega arith)) (search rules)
