use Rattle.std.proofs.Common.{◌≡◌}
use Rattle.std.specs.Slice.Iter.{windows_size, windows_rest}
use Rattle.order.proofs.TwinReturns.{Walking}
use Rattle.order.proofs.first_twin.Given as goal

abbrev pub invariant-loop-pair : goal.invariant-loop-pair
invariant-loop-pair l = (windows_size l.pair-iterator ≡ 2) × Walking l.part l.table l.n l.least (windows_rest l.pair-iterator)
