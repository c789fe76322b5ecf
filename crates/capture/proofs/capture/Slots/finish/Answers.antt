use Rattle.std.proofs.Common.{sym, ◌∙◌}
use Rattle.capture.proofs.Acting.{finished_goal, finished_acted}
use Rattle.capture.proofs.capture.Slots.finish.Goals as goal

pub returns-then-goal_reached : goal.returns-then-goal_reached
returns-then-goal_reached c = λ conf base state g o. rw c.end.ensures (finished_goal _ conf base state g (sym c.goal_reached.ensures ∙ c.if-goal_reached.true) o)

pub returns : goal.returns
returns c = λ conf base state g o. finished_acted _ conf base state g (sym c.goal_reached.ensures ∙ c.if-goal_reached.false) o (c.act.ensures conf base state g o)
