use Rattle.std.proofs.Common.{◌≡◌}
use Rattle.engines.specs.Marked.{over_marks}
use Rattle.pipeline.specs.Round.{deliver_at}
use Rattle.pipeline.proofs.round.deliver_all.Given as goal

abbrev pub invariant-loop-i : goal.invariant-loop-i
invariant-loop-i l = over_marks l.i-iterator.0 (deliver_at l.q) l.ps ≡ over_marks l.parts (deliver_at l.q) l.initial.ps
