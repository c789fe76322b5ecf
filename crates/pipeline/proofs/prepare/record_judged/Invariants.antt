use Rattle.std.proofs.Common.{◌≡◌}
use Rattle.engines.specs.Marked.{over_marks}
use Rattle.pipeline.specs.Pipeline.{record_due}
use Rattle.pipeline.proofs.prepare.record_judged.Given as goal

abbrev pub invariant-loop-t : goal.invariant-loop-t
invariant-loop-t l = over_marks l.t-iterator.0 (record_due l.facts.n l.facts.round l.facts.slot l.rounds l.s) l.c ≡ over_marks l.s.pending (record_due l.facts.n l.facts.round l.facts.slot l.rounds l.s) l.initial.c
