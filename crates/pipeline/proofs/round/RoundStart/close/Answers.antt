use Rattle.pipeline.proofs.Rounding.{close_is}
use Rattle.pipeline.proofs.round.RoundStart.close.Goals as goal

pub returns : goal.returns
returns c =
    close_is _ _ _ _ _ _
    c.state_sets-s.ensures
    (rw c.initiator.ensures.0 at c.parts-parts.ensures)
    c.deliver_all-payloads.ensures
    c.join-holding.ensures
    c.count_covered-covered.ensures
    c.process-g.ensures
    c.shortest_log-done.ensures
    c.progress_all-nodes.ensures
    c.stops-stop.ensures
    c.count_round-metrics.ensures
    c.next_round-round.ensures
