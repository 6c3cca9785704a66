-- `encode::put` meets its contract. Assumes nothing.
use native.Mathlib.Omega.{arith}
use Rattle.encode.proofs.PutLaws.{first_fits, put_none, put_done}
use Rattle.encode.proofs.put.Goals.{then-out-at-via-then-out-at, then-out-at-via-else-out-at+then-out-at-2}
use Rattle.encode.proofs.put.Goals as goal

pub returns-then-out-at : goal.returns-then-out-at
returns-then-out-at c = elim c.then-out-at.branch [
  | then-out-at-via-then-out-at w ↦ put_none _ _ _ _ c.needed-n.ensures (omega arith)
  | then-out-at-via-else-out-at+then-out-at-2 w ↦ put_none _ _ _ _ c.needed-n.ensures (omega arith)
]

pub overflow_cast-out : goal.overflow_cast-out
overflow_cast-out c = omega (arith, first_fits _ _ c.ranges.v.fits c.needed-n.ensures, c.lead.ensures, c.scatter.ensures.0)

pub returns : goal.returns
returns c =
    put_done _ _ _ _ c.needed-n.ensures _ _ (omega arith) c.scatter.ensures.1 (omega (arith, c.lead.ensures, c.scatter.ensures.0))
