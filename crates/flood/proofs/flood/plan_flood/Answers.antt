use Rattle.std.proofs.Common.{refl}
use Rattle.engines.proofs.Marking.{over_turn, over_none}
use Rattle.flood.specs.Flood.{send_at, flood_plan}
use Rattle.flood.proofs.flood.plan_flood.Goals as goal

pub loop-i-init : goal.loop-i-init
loop-i-init c = rw (c.into_iter-i-iterator.ensures.into_iter_gives, c.iter-i-items.ensures) refl

pub loop-i-preserved : goal.loop-i-preserved
unfolding send_at
loop-i-preserved c = over_turn _ c.in-Some.ensures.steps (rw c.find_hearers.ensures at c.send-p.ensures) c.loop-i.invariant

pub returns : goal.returns
unfolding flood_plan
returns c = over_none _ c.in-None.ensures.steps.0 c.loop-i.invariant
