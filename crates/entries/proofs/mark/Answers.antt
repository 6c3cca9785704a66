use borrow.Author.Rules.{rules}
use Rattle.entries.proofs.EntryLaws.{mark_whole, mark_short}
use Rattle.entries.proofs.mark.Goals as goal

ruleset laws = (mark_whole, mark_short, rules)

pub returns-then-end-begin-ge4 : goal.returns-then-end-begin-ge4
returns-then-end-begin-ge4 c = search laws

pub returns : goal.returns
returns c = search laws
