use borrow.Author.Rules.{rules}
use Rattle.entries.proofs.EntryLaws.{bytes_in_law, bytes_out}
use Rattle.compare.proofs.bytes.Goals as goal

ruleset laws = (bytes_in_law, bytes_out, rules)

pub returns-then-part-end : goal.returns-then-part-end
returns-then-part-end c = search laws

pub returns : goal.returns
returns c = search laws
