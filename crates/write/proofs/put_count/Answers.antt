use Rattle.std.proofs.Common.{rules}
use Rattle.write.proofs.PutLaws.{count_room}
use Rattle.write.proofs.put_count.Goals as goal

pub put_number-requires : goal.put_number-requires
put_number-requires c = count_room _ _ _ _ c.requires (search rules)
