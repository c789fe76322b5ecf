use Rattle.room.specs.Rooms.{round_length}
use Rattle.room.proofs.room.round_length.Goals as goal

pub returns-in-Pipeline : goal.returns-in-Pipeline
unfolding round_length
returns-in-Pipeline c = rw (c.in-Pipeline.is, c.flood_length.ensures, c.unwrap_or-diameter.ensures, c.diameter.ensures.value)

pub returns-in-Capture : goal.returns-in-Capture
unfolding round_length
returns-in-Capture c = rw c.in-Capture.is
