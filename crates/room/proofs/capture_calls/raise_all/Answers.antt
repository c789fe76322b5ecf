use Rattle.room.specs.Capturing.{raised_all}
use Rattle.room.proofs.capture_calls.raise_all.Goals as goal

pub returns : goal.returns
unfolding raised_all
returns c = c.change_all.ensures
