use mathlib.Core.Path.{◌∙◌}
use Rattle.text.proofs.Compare.{compared}
use Rattle.text.proofs.are_equal.Goals as goal

-- `text::are_equal` meets its contract: it is what `==` answers.
pub returns : goal.returns
returns c = c.eq.ensures ∙ compared _ _
