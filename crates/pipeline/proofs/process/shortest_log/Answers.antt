use Rattle.std.proofs.Common.{arith, length-take}
use Rattle.std.proofs.lemmas.List.{get_or-take}
use Rattle.loops.specs.Upto.{upto_turn}
use Rattle.pipeline.specs.Pipeline.{no_state, shorter_at}
use Rattle.pipeline.proofs.process.shortest_log.Goals as goal

pub loop-s-preserved : goal.loop-s-preserved
unfolding shorter_at
loop-s-preserved c = upto_turn _ _ c.loop-s.invariant (rw (← get_or-take c.min.result c.args.states c.loop-s.s-index no_state (omega (arith, length-take c.min.result c.args.states))) c.min-shortest.ensures)
