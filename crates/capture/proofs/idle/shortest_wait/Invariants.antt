use Rattle.std.proofs.Common.{◌≤◌}
use Rattle.capture.proofs.Resting.{Waited}
use Rattle.capture.proofs.idle.shortest_wait.Given as goal

abbrev pub invariant-loop-i : goal.invariant-loop-i
invariant-loop-i l = (l.wait ≤ l.most) × Waited l.listening l.table l.slot l.timeout l.wait l.i-iterator.0
