use Rattle.std.proofs.Common.{◌≡◌, ◌^◌, ◌<◌}
use Rattle.loops.specs.Upto.{upto}
use Rattle.pipeline.specs.Pending.{logged_at}
use Rattle.pipeline.proofs.logs.logged.Given as goal

abbrev pub invariant-loop-e : goal.invariant-loop-e
invariant-loop-e l = (l.m < 2 ^ 64) × (l.m ≡ upto l.e-index (logged_at l.fn.g.entries) 0)
