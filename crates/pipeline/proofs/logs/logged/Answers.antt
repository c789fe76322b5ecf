use Rattle.std.proofs.Common.{arith}
use Rattle.std.proofs.lemmas.List.{get_or-take}
use Rattle.loops.specs.Upto.{upto_turn}
use Rattle.engines.proofs.Marking.{with_is}
use Rattle.pipeline.specs.Pending.{no_entry, logged_at}
use Rattle.pipeline.proofs.logs.logged.Goals as goal

pub loop-e-preserved : goal.loop-e-preserved
unfolding logged_at
loop-e-preserved c = (
  omega arith,
  upto_turn _ _ c.loop-e.invariant.1
      (rw (← get_or-take c.min.result c.args.g.entries c.loop-e.e-index no_entry (omega arith)) (with_is _ _ _ c.loop-e.invariant.0 (omega arith) c.with_mark-m.ensures)),
)
