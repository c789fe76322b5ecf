use Rattle.std.proofs.Common.{◌≡◌}
use Rattle.engines.specs.Marked.{over_marks}
use Rattle.pipeline.specs.Pending.{abort_at}
use Rattle.pipeline.proofs.pending.abort_all.Given as goal

abbrev pub invariant-loop-t : goal.invariant-loop-t
invariant-loop-t l = over_marks l.t-iterator.0 abort_at l.q ≡ over_marks l.fast abort_at l.initial.q
