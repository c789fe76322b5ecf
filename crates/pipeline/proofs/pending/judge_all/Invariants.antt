use Rattle.std.proofs.Common.{◌≡◌}
use Rattle.engines.specs.Marked.{over_marks}
use Rattle.pipeline.specs.Pending.{settle_at}
use Rattle.pipeline.proofs.pending.judge_all.Given as goal

abbrev pub invariant-loop-t : goal.invariant-loop-t
invariant-loop-t l = over_marks l.t-iterator.0 (settle_at l.n) l.q ≡ over_marks l.due (settle_at l.n) l.initial.q
