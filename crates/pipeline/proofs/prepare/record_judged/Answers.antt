use Rattle.std.proofs.Common.{refl}
use Rattle.engines.proofs.Marking.{over_turn, over_none}
use Rattle.pipeline.specs.Pipeline.{record_judged}
use Rattle.pipeline.proofs.prepare.record_judged.Goals as goal

pub loop-t-init : goal.loop-t-init
loop-t-init c = rw (c.into_iter-t-iterator.ensures.into_iter_gives, c.iter-t-items.ensures) refl

pub record_due-c-requires : goal.record_due-c-requires
record_due-c-requires c = c.in-Some.ensures.steps.low

pub loop-t-preserved : goal.loop-t-preserved
loop-t-preserved c = over_turn _ c.in-Some.ensures.steps c.record_due-c.ensures c.loop-t.invariant

pub returns : goal.returns
unfolding record_judged
returns c = over_none _ c.in-None.ensures.steps.0 c.loop-t.invariant
