use Rattle.std.proofs.Common.{refl}
use Rattle.engines.proofs.Marking.{over_turn, over_none}
use Rattle.pipeline.specs.Pipeline.{process_at, process_all}
use Rattle.pipeline.proofs.process.Hearing.process_all.Goals as goal

pub loop-i-init : goal.loop-i-init
loop-i-init c = rw (c.into_iter-i-iterator.ensures.into_iter_gives, c.iter-i-items.ensures) refl

pub bounds-ss-i : goal.bounds-ss-i
bounds-ss-i c = c.in-Some.ensures.steps.low

pub bounds-ss-i-in-loop-i : goal.bounds-ss-i-in-loop-i
bounds-ss-i-in-loop-i c = c.in-Some.ensures.steps.low

pub loop-i-preserved : goal.loop-i-preserved
unfolding process_at
loop-i-preserved c = over_turn _ c.in-Some.ensures.steps (rw c.process_one-x.ensures) c.loop-i.invariant

pub returns : goal.returns
unfolding process_all
returns c = over_none _ c.in-None.ensures.steps.0 c.loop-i.invariant
