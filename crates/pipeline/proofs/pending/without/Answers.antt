use Rattle.std.proofs.Common.{arith}
use Rattle.pipeline.proofs.Joining.{without_is}
use Rattle.pipeline.proofs.pending.without.Goals as goal

pub returns : goal.returns
returns c = without_is _ _ _ (omega arith) (omega arith) c.without_mark.ensures
