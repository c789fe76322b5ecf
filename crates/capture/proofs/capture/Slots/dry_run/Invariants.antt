use Rattle.std.proofs.Common.{◌≡◌}
use Rattle.engines.specs.declared.network.RoundConf.{RoundConf}
use Rattle.capture.specs.declared.capture.CeState.{CeState}
use Rattle.capture.specs.Boards.{Shown, Goes}
use Rattle.capture.proofs.Running.{Going}
use Rattle.capture.proofs.capture.Slots.dry_run.Given as goal

abbrev pub invariant-loop-left : goal.invariant-loop-left
invariant-loop-left l =
    (conf : RoundConf) (base state : CeState) → Goes conf l.self.links.now l.self.fixed → conf.length ≡ l.length → Shown conf.graph.n base l.initial.d l.initial.table state
    → Going l.self.words.now conf base state l.left l.d l.table l.due

abbrev pub decreases-loop-left : goal.decreases-loop-left
decreases-loop-left l = l.left
