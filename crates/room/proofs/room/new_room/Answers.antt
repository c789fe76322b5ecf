use Rattle.room.specs.Rooms.{new_room}
use Rattle.room.proofs.room.new_room.Goals as goal

pub returns : goal.returns
unfolding new_room
returns c = rw (c.new-3.ensures, c.new-2.ensures, c.new.ensures)
