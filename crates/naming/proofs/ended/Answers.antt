use Rattle.std.proofs.Common.{arith}
use Rattle.naming.proofs.RoomLaws.{room_inside, room_count}
use Rattle.naming.proofs.NameReturns.{place_sum, ended_once, ended_twice}
use Rattle.naming.proofs.ended.Goals as goal

pub slice_bounds-first_twin-end : goal.slice_bounds-first_twin-end
slice_bounds-first_twin-end c = room_inside _ _ _ _ c.room_for-room.ensures

pub slice_bounds-first_twin-end-2 : goal.slice_bounds-first_twin-end-2
slice_bounds-first_twin-end-2 c = room_count _ _ _ _ c.room_for-room.ensures

pub overflow_add-from : goal.overflow_add-from
overflow_add-from c = omega (arith, place_sum c.args.list.now c.args.at _ c.min-from.ensures c.args.left _ _ c.place_of-place.ensures)

pub returns-then-twin-lt16777216 : goal.returns-then-twin-lt16777216
returns-then-twin-lt16777216 c =
    ended_twice c.args.list.now c.args.at _ c.min-from.ensures _ _ _ _ _ c.if-reach-eq0.false _ c.held.ensures _
    c.room_for-room.ensures _ _ c.first_twin-twin.ensures c.if-twin-lt16777216.true _ c.place_of-place.ensures _ c.at.ensures

pub returns : goal.returns
returns c =
    ended_once c.args.list.now c.args.at _ c.min-from.ensures _ _ _ _ _ c.if-reach-eq0.false _ c.held.ensures _
    c.room_for-room.ensures _ _ c.first_twin-twin.ensures c.if-twin-lt16777216.false
