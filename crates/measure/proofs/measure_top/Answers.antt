use Rattle.measure.proofs.FieldCases.{field_of, field_refused}
use Rattle.measure.proofs.measure_top.Goals as goal

pub returns-in-Ok : goal.returns-in-Ok
returns-in-Ok c = field_of _ _ _ _ c.requires.0 _ c.front_at.ensures c.requires.1.bytes _ c.in-Ok.is _ _ _ _ c.measure_payload.ensures

pub returns-in-Err : goal.returns-in-Err
returns-in-Err c = rw c.at.ensures (field_refused _ _ _ _ c.requires.0 _ c.front_at.ensures _ _ _ c.in-Err.is)
