use Rattle.std.proofs.Common.{◌≡◌, ◌-◌}
use Rattle.loops.specs.Runs.{runs}
use Rattle.capture.specs.Plan.{examine1, is_found, unheard}
use Rattle.capture.proofs.plan.first_kept.Given as goal

abbrev pub invariant-loop-src : goal.invariant-loop-src
invariant-loop-src l = (l.h.examined ≡ l.src-index) × (runs is_found (examine1 l.words l.ids l.loss) (l.count - l.src-index) l.h ≡ runs is_found (examine1 l.words l.ids l.loss) l.count (unheard l.fn.d))
