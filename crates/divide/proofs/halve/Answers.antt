use borrow.Author.Rules.{rules}
use native.Mathlib.Omega.{arith}
use Rattle.divide.proofs.DigitLaws.{reach_perm}
use Rattle.divide.proofs.HalveReturns.{halve_first, halve_second}
use Rattle.divide.proofs.halve.Goals as goal

pub returns-then-table-k : goal.returns-then-table-k
returns-then-table-k c = halve_first _ _ _ _ _ _ c.requires c.split-k.ensures (omega arith)

pub split-requires : goal.split-requires
split-requires c = search (reach_perm, rules)

pub returns-else-table-k : goal.returns-else-table-k
returns-else-table-k c =
    halve_second _ _ _ _ _ _ c.requires
    c.split-k.ensures (omega arith) _ _ c.split.ensures
