use Rattle.std.proofs.Common.{◌≡◌}
use Rattle.engines.specs.Marked.{over_marks}
use Rattle.pipeline.specs.Pending.{votes_at}
use Rattle.pipeline.proofs.pending.join_up_to.Given as goal

abbrev pub invariant-loop-t : goal.invariant-loop-t
invariant-loop-t l = over_marks l.t-iterator.0 (votes_at l.top l.bits) l.votes ≡ over_marks l.pending (votes_at l.top l.bits) l.initial.votes
