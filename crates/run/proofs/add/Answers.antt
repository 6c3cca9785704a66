use mathlib.Core.Path.{ap, ◌∙◌}
use Rattle.run.specs.Run.{join}
use Rattle.run.proofs.add.Goals as goal

pub returns : goal.returns
returns c = c.join.ensures ∙ ap (join c.args.shared) c.id_of.ensures
