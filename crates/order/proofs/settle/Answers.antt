use borrow.Author.Rules.{rules}
use Rattle.order.proofs.ArrangeReturns.{all_room, settle_done, cleared}
use Rattle.order.proofs.settle.Goals as goal

pub sort-requires : goal.sort-requires
sort-requires c = all_room _ _ c.requires

pub returns : goal.returns
returns c =
    settle_done _ _ _
    c.before.before.before.before.before.before.before.before.before.before.before.before.before.before.before.before.requires _ _ _ _ _
    c.before.before.before.before.before.before.before.before.before.before.before.before.sort.ensures
    c.first_twin-least.ensures
    c.keep-count.ensures (cleared _ _ _ (c.fill.ensures.after (λ y e. search rules)))
