use Rattle.std.proofs.Common.{◌≡◌, ◌+◌, ◌≤◌}
use Rattle.marks.specs.Marks.{count_of}
use Rattle.engines.specs.Marked.{over_marks}
use Rattle.capture.specs.Plan.{note_at}
use Rattle.capture.proofs.plan.gather.Given as goal

abbrev pub invariant-loop-s : goal.invariant-loop-s
invariant-loop-s l = (over_marks l.s-iterator.0 (note_at l.links l.t) (record { ids = l.ids; count = l.count }) ≡ over_marks l.flooding (note_at l.links l.t) (record { ids = l.initial.ids; count = 0 })) × (l.count + count_of l.s-iterator.0 64 ≤ 64)
