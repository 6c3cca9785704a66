use Rattle.std.proofs.Common.{rules, tests, ◌∙◌}
use Rattle.std.proofs.lemmas.Iterator.{YieldsList-from_slice, YieldsList-from_map}
use Rattle.std.proofs.lemmas.Iterator.Consumers.{YieldsList-at, YieldsList-from_filter, fold_from_yields_List}
use Rattle.tables.proofs.SecondReturns.{sooner, late_smallest}
use Rattle.tables.proofs.smallest.Goals as goal

pub returns : goal.returns
returns c =
    fold_from_yields_List _ sooner 16777216 _ c.fold.ensures.ran
    (YieldsList-from_filter _ _
    (YieldsList-at c.filter.ensures.source (YieldsList-from_map _ _ (YieldsList-at c.map.ensures.source (YieldsList-from_slice c.args.table.now cc))
    c.map.ensures.closure (λ x r q k. search (rules, tests)))) c.filter.ensures.closure (λ x r q k. search (rules, tests)))
    (λ a x b q k. search (rules, tests))
    ∙ late_smallest _ _
