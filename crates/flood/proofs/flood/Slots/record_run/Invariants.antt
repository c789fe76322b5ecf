use Rattle.engines.specs.Rounds.{placed}
use Rattle.engines.proofs.Rounds.{Left}
use Rattle.flood.specs.Flood.{is_over, flood_slot, flood_rows}
use Rattle.flood.specs.declared.flood.FloodRun.{FloodRun}
use Rattle.flood.proofs.flood.Slots.record_run.Given as goal

abbrev pub invariant-loop-left : goal.invariant-loop-left
invariant-loop-left l = Left (λ (r : FloodRun). r.network) is_over (flood_slot l.self.words.now l.self.conf l.self.bytes) l.self.conf (placed l.initial.part 0 (flood_rows l.self.words.now l.self.conf l.self.bytes l.initial.run)) l.left l.run l.at l.part

abbrev pub decreases-loop-left : goal.decreases-loop-left
decreases-loop-left l = l.left
