use Rattle.std.proofs.Common.{rules}
use Rattle.container.proofs.Clearing.{all_zero, zero_alike}
use Rattle.measure.proofs.Settling.{lent_start, s_none, s_shut, s_failed, s_done}
use Rattle.measure.proofs.measure_within.Goals as goal

pub returns-then-is_empty : goal.returns-then-is_empty
returns-then-is_empty c = rw c.at.ensures (s_none _ _ _ _ (search rules) _ (all_zero _ _ c.clear.ensures))

pub returns-then-list-eq0 : goal.returns-then-list-eq0
returns-then-list-eq0 c = rw c.at-then-list-eq0.ensures (s_shut _ _ _ _ (search rules) (search rules) _ (all_zero _ _ c.clear.ensures))

pub measure_top-measured-requires : goal.measure_top-measured-requires
measure_top-measured-requires c = (search rules, lent_start _ c.type_inv.list c.requires)

pub returns-then-is_err : goal.returns-then-is_err
returns-then-is_err c =
    s_failed _ _ _ _ (search rules) c.if-list-eq0.false _ _ _ c.measure_top-measured.ensures _ _ (search rules) c.decided-answer.ensures
    (search rules) _ (zero_alike _ _ _ c.clear-then-is_err.ensures (search rules))

pub returns-else-is_err : goal.returns-else-is_err
returns-else-is_err c =
    s_done _ _ _ _ (search rules) c.if-list-eq0.false _ _ _ c.measure_top-measured.ensures _ _ (search rules) c.decided-answer.ensures
    (search rules) (all_zero _ _ c.clear.ensures)
