use Rattle.naming.proofs.NameReturns.{note_is}
use Rattle.naming.proofs.note.Goals as goal

pub returns : goal.returns
returns c =
    note_is c.args.list.now c.args.at _ c.min.ensures c.args.table.now c.args.notes _ _ _ _ _ c.saturating_sub.ensures c.saturating_sub-2.ensures c.entry-name.ensures _ _ c.add.ensures
