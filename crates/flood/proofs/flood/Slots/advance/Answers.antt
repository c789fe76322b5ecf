use Rattle.std.proofs.Common.{◌<◌, rules}
use Rattle.engines.proofs.Rounds.{stepped_slot}
use Rattle.flood.specs.Flood.{is_over}
use Rattle.flood.specs.declared.flood.FloodRun.{FloodRun}
use Rattle.flood.proofs.Quieting.{step_many}
use Rattle.flood.proofs.flood.Slots.advance.Goals as goal

pub returns-then-k-eq0 : goal.returns-then-k-eq0
returns-then-k-eq0 c = stepped_slot (λ (r : FloodRun). r.network) is_over _ _ c.requires.0 c.requires.1 c.flood_slot.ensures

pub returns : goal.returns
returns c =
    let some : 0 < c.quiet_slots-k.result = search rules in
    step_many _ _ _ some c.quiet_slots-k.ensures.within (c.quiet_slots-k.ensures.quiet some) c.pass.ensures
