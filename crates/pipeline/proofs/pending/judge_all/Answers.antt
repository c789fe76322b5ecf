use Rattle.std.proofs.Common.{refl}
use Rattle.engines.proofs.Marking.{over_turn, over_none}
use Rattle.pipeline.proofs.pending.judge_all.Goals as goal

pub loop-t-init : goal.loop-t-init
loop-t-init c = rw (c.into_iter-t-iterator.ensures.into_iter_gives, c.iter-t-items.ensures) refl

pub loop-t-preserved : goal.loop-t-preserved
loop-t-preserved c = over_turn _ c.in-Some.ensures.steps c.judge_at-q.ensures c.loop-t.invariant

pub returns : goal.returns
returns c = over_none _ c.in-None.ensures.steps.0 c.loop-t.invariant
