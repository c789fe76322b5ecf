use Rattle.std.proofs.Common.{◌<◌, ◌^◌}
use Rattle.engines.proofs.Sorting.{Sorted}
use Rattle.engines.proofs.node.state_sets.Given as goal

abbrev pub invariant-loop-i : goal.invariant-loop-i
invariant-loop-i l = (l.s.listening < 2 ^ 64) × (l.s.flooding < 2 ^ 64) × (l.s.sleeping < 2 ^ 64) × Sorted l.v-items l.i l.s
