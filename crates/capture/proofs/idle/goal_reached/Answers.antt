use Rattle.std.proofs.Common.{sym, ◌∙◌, arith}
use Rattle.capture.proofs.Resting.{goal_none, goal_beyond, goal_met, goal_left}
use Rattle.capture.proofs.idle.goal_reached.Goals as goal

pub returns-then-n-eq0 : goal.returns-then-n-eq0
returns-then-n-eq0 c = goal_none _ _ c.if-n-eq0.true

pub returns-then-n-gt-POSITIONS : goal.returns-then-n-gt-POSITIONS
returns-then-n-gt-POSITIONS c = goal_beyond _ _ c.if-n-gt-POSITIONS.true

pub returns-then-all_marked : goal.returns-then-all_marked
returns-then-all_marked c =
    goal_met _ _ c.if-n-eq0.false (omega (arith, c.if-n-gt-POSITIONS.false))
    (sym c.all_marked.ensures ∙ c.if-all_marked.true)

pub returns : goal.returns
returns c =
    goal_left _ _ _ c.if-n-eq0.false (omega (arith, c.if-n-gt-POSITIONS.false))
    (sym c.all_marked.ensures ∙ c.if-all_marked.false)
    c.difference.ensures c.all_marked-2.ensures
