use Rattle.order.proofs.+sort.Given as goal

abbrev pub decreases-sort : goal.decreases-sort
decreases-sort l = l.n
