use Rattle.std.proofs.Common.{arith}
use Rattle.pipeline.proofs.Joining.{common_is}
use Rattle.pipeline.proofs.pending.common.Goals as goal

pub returns : goal.returns
returns c = common_is _ _ _ (omega arith) (omega arith) c.intersection.ensures
