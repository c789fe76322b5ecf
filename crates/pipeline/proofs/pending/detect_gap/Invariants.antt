use Rattle.std.proofs.Common.{◌≡◌, None}
use Rattle.loops.specs.Upto.{upto}
use Rattle.pipeline.specs.Pending.{gap_at}
use Rattle.pipeline.proofs.pending.detect_gap.Given as goal

abbrev pub invariant-loop-t : goal.invariant-loop-t
invariant-loop-t l = upto l.t (gap_at l.known) None ≡ None
