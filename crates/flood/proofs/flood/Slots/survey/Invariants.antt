use Rattle.std.proofs.Common.{length}
use Rattle.loops.specs.Runs.{runs}
use Rattle.engines.specs.Rounds.{rows_in}
use Rattle.engines.proofs.Rounds.{Counted}
use Rattle.flood.specs.Flood.{is_over, flood_slot}
use Rattle.flood.specs.declared.flood.FloodRun.{FloodRun}
use Rattle.flood.proofs.flood.Slots.survey.Given as goal

abbrev pub invariant-loop-left : goal.invariant-loop-left
invariant-loop-left l = Counted (λ (r : FloodRun). r.network) is_over (flood_slot l.self.words.now l.self.conf l.self.bytes) l.self.conf (runs is_over (flood_slot l.self.words.now l.self.conf l.self.bytes) l.self.conf.length l.initial.run) (length (rows_in (λ (r : FloodRun). r.network) is_over (flood_slot l.self.words.now l.self.conf l.self.bytes) l.self.conf l.self.conf.length l.initial.run)) l.self.conf.length l.left l.run l.due

abbrev pub decreases-loop-left : goal.decreases-loop-left
decreases-loop-left l = l.left
