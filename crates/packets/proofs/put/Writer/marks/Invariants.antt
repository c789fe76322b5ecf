use Rattle.std.proofs.Common.{◌-◌}
use Rattle.marks.specs.Marks.{marks_of}
use Rattle.texts.specs.Readers.{bool_text, items_text}
use Rattle.packets.proofs.Writers.{Left}
use Rattle.packets.proofs.put.Writer.marks.Given as goal

abbrev pub invariant-loop-done : goal.invariant-loop-done
invariant-loop-done l = Left l.initial.w (items_text bool_text (marks_of l.m l.n)) l.w (items_text bool_text (marks_of l.rest (l.n - l.done)))
