use Rattle.std.proofs.Common.{rules, tests, ◌∙◌}
use Rattle.std.proofs.lemmas.Iterator.{YieldsList-from_slice}
use Rattle.std.proofs.lemmas.Iterator.Search.{all_from_yields_List}
use Rattle.tables.specs.Fit.{fits}
use Rattle.tables.proofs.FitReturns.{all_fit_is}
use Rattle.tables.proofs.are_fit.Goals as goal

pub returns : goal.returns
returns c =
    all_from_yields_List (fits c.args.part.now) _ _ _ c.all.ensures.ran (YieldsList-from_slice c.args.table.now cc) (λ x b q k. search (rules, tests))
    ∙ all_fit_is _ _
