use Rattle.std.proofs.Common.{arith}
use Rattle.pipeline.proofs.Joining.{join_is}
use Rattle.pipeline.proofs.pending.join.Goals as goal

pub returns : goal.returns
returns c = join_is _ _ _ (omega arith) (omega arith) (omega arith) c.union.ensures
