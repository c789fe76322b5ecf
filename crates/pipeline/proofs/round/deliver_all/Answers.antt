use Rattle.std.proofs.Common.{refl}
use Rattle.engines.proofs.Marking.{over_turn, over_none}
use Rattle.pipeline.specs.Round.{deliver_all}
use Rattle.pipeline.proofs.round.deliver_all.Goals as goal

pub loop-i-init : goal.loop-i-init
loop-i-init c = rw (c.into_iter-i-iterator.ensures.into_iter_gives, c.iter-i-items.ensures) refl

pub bounds-ps-i : goal.bounds-ps-i
bounds-ps-i c = c.in-Some.ensures.steps.low

pub loop-i-preserved : goal.loop-i-preserved
loop-i-preserved c = over_turn _ c.in-Some.ensures.steps refl c.loop-i.invariant

pub returns : goal.returns
unfolding deliver_all
returns c = over_none _ c.in-None.ensures.steps.0 c.loop-i.invariant
