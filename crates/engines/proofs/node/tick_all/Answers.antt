use Rattle.engines.specs.Nodes.{tick_at, ticked_all}
use Rattle.engines.proofs.node.tick_all.Goals as goal

pub returns : goal.returns
unfolding ticked_all tick_at
returns c = c.change_all.ensures
