use borrow.Author.Rules.{rules}
use Rattle.container.proofs.Returns.{store_none}
use Rattle.container.proofs.store.Goals as goal

pub returns-else-k-work : goal.returns-else-k-work
returns-else-k-work c = search (store_none, rules)
