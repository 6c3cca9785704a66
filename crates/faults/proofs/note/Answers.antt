use borrow.Author.Rules.{rules}
use Rattle.faults.proofs.NotedLaws.{note_met, note_not}
use Rattle.faults.proofs.note.Goals as goal

ruleset laws = (note_met, note_not, rules)

pub returns-then-is_asked-met : goal.returns-then-is_asked-met
returns-then-is_asked-met c = search laws

pub returns : goal.returns
returns c = search laws
