use borrow.Author.Rules.{rules}
use Rattle.std.proofs.Common.{◌∙◌}
use Rattle.container.proofs.Returns.{packed_is}
use Rattle.container.proofs.pack.Goals as goal
use Rattle.container.proofs.pack.Goals.{then-is_uniform, else-is_uniform}

pub returns : goal.returns
returns c =
    elim c.if-is_uniform.branch [
      | then-is_uniform w ↦ packed_is _ _ _ _ _ _ c.count_width.ensures.0 (c.from.ensures ∙ search rules)
      | else-is_uniform w ↦ packed_is _ _ _ _ _ _ c.count_width.ensures.0 (c.from.ensures ∙ search rules)
    ]
