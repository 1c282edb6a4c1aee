use Rattle.c_checker_parts.proofs.Rows.{room_set, room_stays}
use Rattle.c_checker_parts.proofs.structures.set_room.Goals as goal

pub returns-then-i-rooms : goal.returns-then-i-rooms
returns-then-i-rooms c = room_set c.args.rooms.now c.args.room _ c.args.number c.saturating_sub-i.ensures

pub returns-else-i-rooms : goal.returns-else-i-rooms
returns-else-i-rooms c = room_stays c.args.rooms.now c.args.room _ c.args.number c.saturating_sub-i.ensures c.if-i-rooms.false
