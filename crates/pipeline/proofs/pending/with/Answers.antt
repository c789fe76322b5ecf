use Rattle.std.proofs.Common.{arith}
use Rattle.engines.proofs.Marking.{with_is}
use Rattle.pipeline.proofs.pending.with.Goals as goal

pub returns : goal.returns
returns c = with_is _ _ _ (omega arith) (omega arith) c.with_mark.ensures
