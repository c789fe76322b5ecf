use Rattle.std.proofs.Common.{arith}
use Rattle.pipeline.proofs.Taking.{parts_is}
use Rattle.pipeline.proofs.process.parts.Goals as goal

pub returns : goal.returns
returns c = parts_is _ _ _ _ _ _ (omega arith) c.with-all.ensures c.first_marks.ensures c.intersection.ensures
