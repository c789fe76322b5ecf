use Rattle.std.proofs.Common.{◌≡◌}
use Rattle.loops.specs.Wrap.{add64}
use Rattle.engines.specs.Marked.{over_marks}
use Rattle.engines.specs.Network.{on_air}
use Rattle.capture.specs.Boards.{length_by}
use Rattle.capture.proofs.ce.bytes_of.Given as goal

abbrev pub invariant-loop-i : goal.invariant-loop-i
invariant-loop-i l =
    over_marks l.i-iterator.0 (λ i s. add64 s (on_air (length_by l.p l.table i))) l.sum ≡ over_marks l.flooding (λ i s. add64 s (on_air (length_by l.p l.table i))) 0
