use borrow.Author.Rules.{rules}
use Rattle.select.proofs.SearchReturns.{search_starts, search_ends, search_on, search_less}
use Rattle.select.proofs.search.Goals as goal

ruleset laws = (search_starts, search_ends, search_on, search_less, rules)

pub loop-source-init : goal.loop-source-init
loop-source-init c = search laws

pub returns-then-is_none : goal.returns-then-is_none
returns-then-is_none c = search_ends _ _ _ _ _ _ c.loop-source.invariant _ _ c.gather-pass.ensures _ c.is_none.ensures c.if-is_none.true

pub loop-source-smaller : goal.loop-source-smaller
loop-source-smaller c = search laws

pub loop-source-preserved : goal.loop-source-preserved
loop-source-preserved c = search laws
