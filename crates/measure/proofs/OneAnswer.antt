-- No second answer, for the first pass: the one equation that `measure` ensures fixes the answer and every work number.
use Prim.Native.Nat.{ℕ}
use mathlib.Core.List.{List}
use Rattle.number.proofs.OneAnswer.{One, one}
use Rattle.measure.specs.Settle.{settled}

pub measure_one : (list : List ℕ) (room : ℕ) (work : List ℕ) → One (settled list room work)
measure_one list room work = one (settled list room work)
