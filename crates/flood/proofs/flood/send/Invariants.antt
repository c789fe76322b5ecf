use Rattle.std.proofs.Common.{◌≡◌}
use Rattle.engines.specs.Marked.{over_marks}
use Rattle.flood.specs.Flood.{hear_at}
use Rattle.flood.proofs.flood.send.Given as goal

abbrev pub invariant-loop-j : goal.invariant-loop-j
invariant-loop-j l = over_marks l.j-iterator.0 (hear_at l.words l.loss) l.q ≡ over_marks l.hearers (hear_at l.words l.loss) l.initial.q
