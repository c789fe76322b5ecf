use Rattle.engines.specs.Stretch.{passed_all}
use Rattle.engines.proofs.stretch.pass_all.Goals as goal

pub returns : goal.returns
unfolding passed_all
returns c = c.change_all.ensures
