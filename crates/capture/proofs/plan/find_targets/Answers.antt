use Rattle.std.proofs.Common.{arith}
use Rattle.capture.proofs.Targets.{targets_is}
use Rattle.capture.proofs.plan.find_targets.Goals as goal

pub returns : goal.returns
returns c = targets_is _ _ _ (omega arith) (omega arith) c.difference.ensures
