use Rattle.read.proofs.StepLaws.{step_contents, contents_ready}
use Rattle.read.proofs.step.Goals as goal

pub step_in-requires : goal.step_in-requires
step_in-requires c = contents_ready _ _ c.args.last _ c.open_place.ensures _ c.in_ok-opened.was _ _ c.in-Fields.is

pub returns-in-Fields : goal.returns-in-Fields
returns-in-Fields c =
    step_contents _ _ c.args.last _ c.open_place.ensures _ c.in_ok-opened.was _ _ c.in-Fields.is _ _ c.step_in.ensures c.from.ensures
