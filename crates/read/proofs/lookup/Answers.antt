use Rattle.read.proofs.LookLaws.{lookup_fields}
use Rattle.read.proofs.lookup.Goals as goal

pub returns-in-Fields : goal.returns-in-Fields
returns-in-Fields c = lookup_fields _ _ c.args.name.now _ c.open_place.ensures _ c.in_ok-opened.was _ _ c.in-Fields.is _ c.look.ensures
