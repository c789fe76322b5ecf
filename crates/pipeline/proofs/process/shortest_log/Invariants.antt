use Rattle.std.proofs.Common.{◌≡◌}
use Rattle.loops.specs.Upto.{upto}
use Rattle.pipeline.specs.Pipeline.{shorter_at}
use Rattle.pipeline.proofs.process.shortest_log.Given as goal

abbrev pub invariant-loop-s : goal.invariant-loop-s
invariant-loop-s l = l.shortest ≡ upto l.s-index (shorter_at l.fn.states) 64
