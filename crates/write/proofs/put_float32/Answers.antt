use Rattle.std.proofs.Common.{◌∙◌}
use Rattle.write.proofs.PutLaws.{float_bytes}
use Rattle.write.proofs.put_float32.Goals as goal

pub returns : goal.returns
returns c = float_bytes _ _ _ _ c.requires (c.copy_from_slice.ensures.after ∙ c.to_be_bytes.ensures)
