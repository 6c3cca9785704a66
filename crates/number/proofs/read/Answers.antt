-- `number::read` meets its contract. Assumes nothing.
use native.Mathlib.Omega.{arith}
use borrow.Author.Rules.{rules}
use Rattle.number.proofs.ReadLaws.{read_none, read_one, read_cut, value_fits, read_whole}
use Rattle.number.proofs.read.Goals as goal

pub returns-in_default : goal.returns-in_default
returns-in_default c = search (read_none, rules)

pub returns-then-n-eq0 : goal.returns-then-n-eq0
returns-then-n-eq0 c = read_one _ _ _ _ _ c.in-Some.ensures.cases.0 c.following-n.ensures c.if-n-eq0.true c.from.ensures

pub returns-then-rest-n : goal.returns-then-rest-n
returns-then-rest-n c = search (read_cut, rules)

pub gather-value-requires : goal.gather-value-requires
gather-value-requires c = value_fits _ _ _ _ _ c.type_inv.part c.in-Some.ensures.cases.0 c.following-n.ensures (omega arith) c.front.ensures

pub returns : goal.returns
returns c = search (read_whole, rules)
