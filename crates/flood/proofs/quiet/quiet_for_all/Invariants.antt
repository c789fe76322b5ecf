use Rattle.std.proofs.Common.{ℕ, ◌<◌, ◌≤◌, get_or}
use Rattle.engines.specs.Nodes.{no_node}
use Rattle.flood.specs.Quiet.{Alone}
use Rattle.flood.proofs.quiet.quiet_for_all.Given as goal

abbrev pub invariant-loop-i : goal.invariant-loop-i
invariant-loop-i l = (l.k ≤ l.most) × ((j : ℕ) → j < l.i → 0 < l.k → Alone (get_or l.links j 0) l.listening l.k (get_or l.fn.at j no_node))
