use Rattle.std.proofs.Common.{arith}
use Rattle.engines.specs.Columns.{cell}
use Rattle.capture.proofs.Resting.{waited_none, waited_more, waited_all}
use Rattle.capture.proofs.idle.shortest_wait.Goals as goal

pub loop-i-init : goal.loop-i-init
loop-i-init c = rw (c.into_iter-i-iterator.ensures.into_iter_gives, c.iter-i-items.ensures) ((omega arith, waited_none))

pub loop-i-preserved : goal.loop-i-preserved
unfolding cell
loop-i-preserved c =
    let w = c.in-Some.ensures.steps in
    (omega (arith, c.loop-i.invariant.0, c.until_due-wait.ensures.0), waited_more c.loop-i.invariant.1 c.until_due-wait.ensures.0 c.until_due-wait.ensures.1 w)

pub returns : goal.returns
returns c = (c.loop-i.invariant.0, waited_all c.loop-i.invariant.1 c.in-None.ensures.steps.0)
