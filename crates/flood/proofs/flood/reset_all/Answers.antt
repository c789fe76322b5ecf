use Rattle.flood.specs.Flood.{reset_at, reset_all}
use Rattle.flood.proofs.flood.reset_all.Goals as goal

pub returns : goal.returns
unfolding reset_all reset_at
returns c = c.change_all.ensures
