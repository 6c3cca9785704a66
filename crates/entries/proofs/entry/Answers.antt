use borrow.Author.Rules.{rules}
use Rattle.entries.proofs.EntryLaws.{entry_crossed, entry_outside, entry_long, entry_some}
use Rattle.entries.proofs.entry.Goals as goal
use Rattle.entries.proofs.entry.Goals.{then-end-begin-via-then-end-begin, then-end-begin-via-else-end-begin+then-part-end, then-end-begin-via-else-end-begin+else-part-end+then-part-ge16777216}

ruleset laws = (entry_crossed, entry_outside, entry_long, entry_some, rules)

pub returns-then-end-begin : goal.returns-then-end-begin
returns-then-end-begin c = elim c.then-end-begin.branch [
  | then-end-begin-via-then-end-begin w ↦ search laws
  | then-end-begin-via-else-end-begin+then-part-end w ↦ search laws
  | then-end-begin-via-else-end-begin+else-part-end+then-part-ge16777216 w ↦ search laws
]

pub returns : goal.returns
returns c = search laws
