use borrow.Author.Rules.{rules}
use Rattle.entries.proofs.EntryLaws.{half_none, half_some}
use Rattle.entries.proofs.half.Goals as goal

ruleset laws = (half_none, half_some, rules)

pub returns-then-end-begin : goal.returns-then-end-begin
returns-then-end-begin c = search laws

pub returns : goal.returns
returns c = search laws
