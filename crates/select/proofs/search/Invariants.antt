use Rattle.select.specs.Source.{entries_of}
use Rattle.select.proofs.PassLaws.{left}
use Rattle.select.proofs.SearchReturns.{Searching}
use Rattle.select.proofs.search.Given as goal

abbrev pub invariant-loop-source : goal.invariant-loop-source
invariant-loop-source l = Searching l.source l.part l.initial.table l.table l.low l.stop

abbrev pub decreases-loop-source : goal.decreases-loop-source
decreases-loop-source l = left l.part l.low (entries_of l.source l.part)
