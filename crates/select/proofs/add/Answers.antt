use borrow.Author.Rules.{rules}
use Rattle.select.proofs.CutReturns.{put_none}
use Rattle.select.proofs.PassLaws.{add_cut}
use Rattle.select.proofs.add.Goals as goal

ruleset laws = (put_none, add_cut, rules)

pub returns-then-not-is_wanted : goal.returns-then-not-is_wanted
returns-then-not-is_wanted c = search laws

pub returns : goal.returns
returns c = search laws
