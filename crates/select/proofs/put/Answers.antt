use borrow.Author.Rules.{rules}
use Rattle.select.proofs.CutReturns.{put_none, put_one}
use Rattle.select.proofs.put.Goals as goal

ruleset laws = (put_none, put_one, rules)

pub returns-then-not-is_wanted : goal.returns-then-not-is_wanted
returns-then-not-is_wanted c = search laws

pub returns : goal.returns
returns c = search laws
