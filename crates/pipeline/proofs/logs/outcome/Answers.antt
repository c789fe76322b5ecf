use Rattle.std.proofs.Common.{arith}
use Rattle.std.proofs.lemmas.List.{get_or-take}
use Rattle.pipeline.specs.Pending.{no_entry}
use Rattle.pipeline.proofs.Finding.{outcome_first}
use Rattle.pipeline.proofs.logs.outcome.Goals as goal

pub returns-then-e-t : goal.returns-then-e-t
returns-then-e-t c =
    let e = get_or-take c.min.result c.args.g.entries c.loop-e.e-index no_entry (omega arith) in
    rw e (outcome_first c.args.g c.args.t c.loop-e.e-index (omega arith) c.loop-e.invariant (rw e at c.if-e-t.true))
