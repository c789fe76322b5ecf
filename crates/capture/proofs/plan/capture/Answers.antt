use Rattle.capture.proofs.Hearing.{capture_is}
use Rattle.capture.proofs.plan.capture.Goals as goal

pub returns : goal.returns
returns c = capture_is _ _ _ _ _ _ c.gather-count.ensures.0 c.shuffle-e.ensures c.first_kept.ensures
