use Rattle.capture.proofs.Resting.{planned_by}
use Rattle.capture.proofs.plan.plan_slot.Goals as goal

pub returns : goal.returns
returns c =
    planned_by _ _ _ _ _ _ _ _ c.toss_all-c.ensures c.find_targets-targets.ensures
    c.capture_all-q.ensures c.count_marks.ensures
