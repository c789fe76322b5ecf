use Rattle.std.proofs.Common.{◌≡◌}
use Rattle.engines.specs.Marked.{over_marks}
use Rattle.flood.specs.Flood.{send_at}
use Rattle.flood.proofs.flood.plan_flood.Given as goal

abbrev pub invariant-loop-i : goal.invariant-loop-i
invariant-loop-i l = over_marks l.i-iterator.0 (send_at l.words l.loss l.links l.s.listening) l.p ≡ over_marks l.s.flooding (send_at l.words l.loss l.links l.s.listening) l.initial.p
