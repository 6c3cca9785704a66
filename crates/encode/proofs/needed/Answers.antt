-- `encode::needed` meets its contract. Assumes nothing.
use Rattle.std.proofs.Common.{rules, tests, ltb}
use Rattle.std.proofs.lemmas.Iterator.{YieldsList-from_slice}
use Rattle.std.proofs.lemmas.Iterator.Search.{position_from_yields_List}
use Rattle.number.specs.VarUInt.{bounds}
use Rattle.number.proofs.ReachedLaws.{reached_position}
use Rattle.encode.proofs.needed.Goals as goal

pub returns : goal.returns
returns c =
    let found = position_from_yields_List (ltb c.args.v) _ _ c.position.result c.position.ensures.ran (YieldsList-from_slice bounds c.iter.ensures.rest)
    (λ x b q k. search (rules, tests)) in
    rw c.unwrap_or.ensures (reached_position bounds c.args.v c.position.result found)
