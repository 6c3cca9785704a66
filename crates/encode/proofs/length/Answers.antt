-- `encode::length` meets its contract. Assumes nothing.
use borrow.Author.Rules.{rules}
use Rattle.number.proofs.VarUIntLaws.{measured}
use Rattle.encode.proofs.length.Goals as goal

pub returns : goal.returns
returns c = search (measured, rules)
