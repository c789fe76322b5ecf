use Rattle.std.proofs.Common.{rules}
use Rattle.engines.specs.Columns.{stored_as}
use Rattle.engines.proofs.columns.store.Goals as goal

pub returns : goal.returns
unfolding stored_as
returns c = c.change.ensures (λ v. c.args.x) (λ v w k. search rules)
