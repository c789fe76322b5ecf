use Rattle.std.proofs.Common.{◌≡◌}
use Rattle.engines.specs.Marked.{over_marks}
use Rattle.pipeline.specs.Pipeline.{record_abort}
use Rattle.pipeline.proofs.process.record_aborts.Given as goal

abbrev pub invariant-loop-t : goal.invariant-loop-t
invariant-loop-t l = over_marks l.t-iterator.0 (record_abort l.slot) l.c ≡ over_marks l.fast (record_abort l.slot) l.initial.c
