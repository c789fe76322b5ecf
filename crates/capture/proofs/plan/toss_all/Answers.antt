use Rattle.std.proofs.Common.{refl}
use Rattle.engines.specs.Columns.{cell}
use Rattle.capture.specs.Boards.{coins_by}
use Rattle.engines.proofs.Marking.{over_turn, over_none}
use Rattle.capture.proofs.plan.toss_all.Goals as goal

pub loop-i-init : goal.loop-i-init
loop-i-init c = rw (c.into_iter-i-iterator.ensures.into_iter_gives, c.iter-i-items.ensures) refl

pub loop-i-preserved : goal.loop-i-preserved
unfolding cell
loop-i-preserved c =
    let w = c.in-Some.ensures.steps in
    over_turn _ w c.toss-c.ensures c.loop-i.invariant

pub returns : goal.returns
unfolding coins_by
returns c = over_none _ c.in-None.ensures.steps.0 c.loop-i.invariant
