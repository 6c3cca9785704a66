use native.Mathlib.Omega.{arith}
use Rattle.divide.proofs.DivideReturns.{fit_alike, divide_few, divide_unfit, divide_done}
use Rattle.divide.proofs.first_twin.Goals as goal
use Rattle.divide.proofs.first_twin.Goals.{else-n-table-via-then-n-table+else-are_fit, else-n-table-via-else-n-table}

pub settle-requires : goal.settle-requires
settle-requires c = fit_alike _ _ _ c.are_fit.ensures c.if-are_fit.true

pub returns-then-are_fit : goal.returns-then-are_fit
returns-then-are_fit c =
    divide_done _ _ _ (omega arith) _ c.are_fit.ensures c.if-are_fit.true _ _
    c.settle.ensures.0 c.settle.ensures.1

pub returns-else-n-table : goal.returns-else-n-table
returns-else-n-table c =
    elim c.else-n-table.branch [
      | else-n-table-via-then-n-table+else-are_fit w ↦ divide_unfit _ _ _ (omega arith) _ w.are_fit.ensures w.if-are_fit.false
      | else-n-table-via-else-n-table w ↦ divide_few _ _ _ (omega arith)
    ]
