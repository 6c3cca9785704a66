use mathlib.Core.Path.{ap, sym}
use Rattle.faults.specs.Noted.{asks}
use Rattle.faults.proofs.is_asked.Goals as goal

pub returns-in-Twin : goal.returns-in-Twin
returns-in-Twin c = ap (asks c.args.modes) (sym c.in-Twin.is)

pub returns-in-Blank : goal.returns-in-Blank
returns-in-Blank c = ap (asks c.args.modes) (sym c.in-Blank.is)

pub returns-in-Long : goal.returns-in-Long
returns-in-Long c = ap (asks c.args.modes) (sym c.in-Long.is)

pub returns-in-Low : goal.returns-in-Low
returns-in-Low c = ap (asks c.args.modes) (sym c.in-Low.is)

pub returns-in-Wide : goal.returns-in-Wide
returns-in-Wide c = ap (asks c.args.modes) (sym c.in-Wide.is)

pub returns-in-NotUtf8 : goal.returns-in-NotUtf8
returns-in-NotUtf8 c = ap (asks c.args.modes) (sym c.in-NotUtf8.is)

pub returns-in-NotUniform : goal.returns-in-NotUniform
returns-in-NotUniform c = ap (asks c.args.modes) (sym c.in-NotUniform.is)
