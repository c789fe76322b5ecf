use Rattle.std.proofs.Common.{◌≡◌}
use lib.ListN as ListN
use Rattle.engines.specs.Rows.{highest_progress}
use Rattle.engines.specs.Rounds.{placed}
use Rattle.engines.specs.declared.network.RoundConf.{RoundConf}
use Rattle.capture.specs.Capture.{rows_of}
use Rattle.capture.specs.declared.capture.CeState.{CeState}
use Rattle.capture.specs.Boards.{Shown, Goes}
use Rattle.capture.proofs.Running.{Writing}
use Rattle.capture.proofs.capture.Slots.record_run.Given as goal

abbrev pub invariant-loop-left : goal.invariant-loop-left
invariant-loop-left l =
    (ListN.length l.part ≡ ListN.length l.initial.part)
    × ((conf : RoundConf) (base state : CeState) → Goes conf l.self.links.now l.self.fixed → conf.length ≡ l.length → Shown conf.graph.n base l.initial.d l.initial.table state
    → highest_progress conf.graph.n base.network.nodes ≡ l.top
    → Writing l.self.words.now conf base (placed l.initial.part 0 (rows_of l.self.words.now conf l.length state)) l.left l.d l.table l.at l.part)

abbrev pub decreases-loop-left : goal.decreases-loop-left
decreases-loop-left l = l.left
