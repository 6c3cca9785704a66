use Rattle.std.proofs.Common.{arith}
use Rattle.write.proofs.LeafPut.{double_high, narrow_room, narrow_put, wide_room, wide_put}
use Rattle.write.proofs.put_double.Goals as goal
use Rattle.write.proofs.put_double.Goals.{in-Some, in-None}

pub put_float32-requires : goal.put_float32-requires
put_float32-requires c = narrow_room _ _ _ _ c.requires _ c.bits_at.ensures _ c.narrow.ensures _ c.in-Some.is

pub copy-requires : goal.copy-requires
copy-requires c = (
  omega arith,
  double_high _ _ _ _ c.requires,
  wide_room _ _ _ _ c.requires _ c.bits_at.ensures _ c.narrow.ensures c.in-None.is,
)

pub returns : goal.returns
returns c =
    elim c.match-narrow.branch [
      | in-Some w ↦ narrow_put _ _ _ _ c.requires _ c.bits_at.ensures _ c.narrow.ensures _ w.in-Some.is _ _ _ w.size-is w.out-is w.put_float32.ensures
      | in-None w ↦ wide_put _ _ _ _ c.requires _ c.bits_at.ensures _ c.narrow.ensures w.in-None.is _ _ _ w.size-is w.out-is w.copy.ensures
    ]
