use Rattle.program.proofs.InParts.{ran_small}
use Rattle.program.proofs.ajuqvane_write_list.Goals as goal

pub returns : goal.returns
returns c = ran_small _ _ c.run.ensures
