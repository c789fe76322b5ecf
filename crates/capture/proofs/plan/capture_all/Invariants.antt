use Rattle.std.proofs.Common.{◌≡◌}
use Rattle.engines.specs.Marked.{over_marks}
use Rattle.capture.specs.Plan.{capture_at}
use Rattle.capture.proofs.plan.capture_all.Given as goal

abbrev pub invariant-loop-t : goal.invariant-loop-t
invariant-loop-t l = over_marks l.t-iterator.0 (capture_at l.words l.loss l.links l.flooding) (record { hears = l.hears; tally = l.q }) ≡ over_marks l.targets (capture_at l.words l.loss l.links l.flooding) (record { hears = l.initial.hears; tally = l.initial.q })
