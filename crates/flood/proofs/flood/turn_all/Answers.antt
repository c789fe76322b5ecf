use Rattle.flood.specs.Flood.{turn_at, turned_all}
use Rattle.flood.proofs.flood.turn_all.Goals as goal

pub returns : goal.returns
unfolding turned_all turn_at
returns c = c.change_all.ensures
