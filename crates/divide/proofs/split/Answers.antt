use borrow.Author.Rules.{rules}
use native.Mathlib.Omega.{arith}
use Rattle.divide.proofs.SplitReturns.{counted_few, split_starts, split_length, split_asks, split_on, split_ends}
use Rattle.divide.proofs.split.Goals as goal

pub loop-i-init : goal.loop-i-init
loop-i-init c = search (split_starts, rules)

pub digit-requires : goal.digit-requires
digit-requires c = split_asks _ _ _ _ _ _ _ _ c.loop-i.invariant (search rules) c.requires

pub overflow_add-k : goal.overflow_add-k
overflow_add-k c = omega (arith, counted_few _ _ _ _ c.counted-k.ensures)

pub loop-i-preserved : goal.loop-i-preserved
loop-i-preserved c =
    split_on _ _ _ _ _ _ _ _ c.loop-i.invariant
    (omega (arith, split_length _ _ _ _ _ _ _ _ c.loop-i.invariant)) _ _ c.digit.ensures c.counted-k.ensures

pub returns : goal.returns
returns c = split_ends _ _ _ _ _ _ _ _ c.loop-i.invariant (omega (arith, split_length _ _ _ _ _ _ _ _ c.loop-i.invariant))
