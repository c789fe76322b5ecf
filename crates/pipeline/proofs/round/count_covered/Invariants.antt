use Rattle.std.proofs.Common.{◌≡◌}
use Rattle.loops.specs.Upto.{upto}
use Rattle.pipeline.specs.Round.{cover_at}
use Rattle.pipeline.proofs.round.count_covered.Given as goal

abbrev pub invariant-loop-i : goal.invariant-loop-i
invariant-loop-i l = l.covered ≡ upto l.i (cover_at l.q l.holding l.payloads) 0
