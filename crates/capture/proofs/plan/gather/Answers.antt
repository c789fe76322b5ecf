use Rattle.std.proofs.Common.{refl, arith}
use Rattle.marks.specs.Sets.{count_le}
use Rattle.engines.proofs.Marking.{over_less, over_turn, over_none}
use Rattle.capture.proofs.plan.gather.Goals as goal

pub loop-s-init : goal.loop-s-init
loop-s-init c = rw (c.into_iter-s-iterator.ensures.into_iter_gives, c.iter-s-items.ensures) ((refl, omega (arith, count_le c.args.flooding 64)))

pub note-count-requires : goal.note-count-requires
note-count-requires c = (c.in-Some.ensures.steps.low, omega (arith, c.loop-s.invariant.1, over_less c.in-Some.ensures.steps))

pub loop-s-preserved : goal.loop-s-preserved
loop-s-preserved c = (over_turn _ c.in-Some.ensures.steps c.note-count.ensures.0 c.loop-s.invariant.0, omega (arith, c.loop-s.invariant.1, c.note-count.ensures.1, over_less c.in-Some.ensures.steps))

pub returns : goal.returns
returns c = (over_none _ c.in-None.ensures.steps.0 c.loop-s.invariant.0, omega (arith, c.loop-s.invariant.1))
