use Rattle.std.proofs.Common.{◌≡◌}
use Rattle.loops.specs.Upto.{upto}
use Rattle.engines.specs.Marked.{place}
use Rattle.merges.specs.Merging.{no_payload}
use Rattle.capture.specs.Boards.{payload_by}
use Rattle.capture.proofs.board.pack_held.Given as goal

abbrev pub invariant-loop-i : goal.invariant-loop-i
invariant-loop-i l = l.a ≡ upto l.i (place no_payload (payload_by l.held l.p l.table)) l.initial.a
