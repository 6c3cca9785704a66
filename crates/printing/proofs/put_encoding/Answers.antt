use native.Mathlib.Omega.{arith}
use Rattle.printing.proofs.TextLaws.{put_none, put_room}
use Rattle.printing.proofs.put_encoding.Goals as goal

pub returns-then-div_ceil-encoding : goal.returns-then-div_ceil-encoding
returns-then-div_ceil-encoding c = put_none _ _ _ (omega arith)

pub returns : goal.returns
returns c = put_room _ _ _ (omega arith) _ c.encoding_in.ensures
