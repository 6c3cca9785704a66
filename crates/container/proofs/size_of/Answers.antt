use borrow.Author.Rules.{rules}
use Rattle.container.proofs.Returns.{size_is}
use Rattle.container.proofs.size_of.Goals as goal
use Rattle.container.proofs.size_of.Goals.{then-is_uniform, else-is_uniform}

pub returns : goal.returns
returns c =
    elim c.if-is_uniform.branch [
      | then-is_uniform w ↦ size_is _ _ _ _ _ _ c.count_width.ensures.0 (search rules)
      | else-is_uniform w ↦ size_is _ _ _ _ _ _ c.count_width.ensures.0 (search rules)
    ]
