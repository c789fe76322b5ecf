use Rattle.std.proofs.Common.{rules}
use Rattle.loops.specs.Wrap.{add64}
use Rattle.engines.specs.Columns.{raised_by}
use Rattle.engines.proofs.columns.raise.Goals as goal

pub returns : goal.returns
unfolding raised_by
returns c = c.change.ensures (λ v. add64 v c.args.k) (λ v w k. search rules)
