use Rattle.std.proofs.Common.{◌≡◌}
use Rattle.engines.specs.Marked.{over_marks}
use Rattle.pipeline.specs.Pipeline.{process_at}
use Rattle.pipeline.proofs.process.Hearing.process_all.Given as goal

abbrev pub invariant-loop-i : goal.invariant-loop-i
invariant-loop-i l = over_marks l.i-iterator.0 (process_at l.self.words.now l.self.abort_probability l.self.facts l.self.rounds.now l.self.packet) (record { states = l.ss; carried = l.m }) ≡ over_marks l.parts (process_at l.self.words.now l.self.abort_probability l.self.facts l.self.rounds.now l.self.packet) (record { states = l.initial.ss; carried = l.initial.m })
