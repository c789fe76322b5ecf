use Rattle.std.proofs.Common.{refl}
use Rattle.engines.proofs.Marking.{over_turn, over_none}
use Rattle.flood.proofs.flood.send.Goals as goal

pub loop-j-init : goal.loop-j-init
loop-j-init c = rw (c.into_iter-j-iterator.ensures.into_iter_gives, c.iter-j-items.ensures) refl

pub loop-j-preserved : goal.loop-j-preserved
loop-j-preserved c = over_turn _ c.in-Some.ensures.steps c.hear-q.ensures c.loop-j.invariant

pub returns : goal.returns
returns c = over_none _ c.in-None.ensures.steps.0 c.loop-j.invariant
