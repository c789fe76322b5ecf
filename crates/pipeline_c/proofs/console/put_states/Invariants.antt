use Rattle.std.proofs.Common.{◌≡◌}
use Rattle.loops.specs.Upto.{upto}
use Rattle.pipeline_c.specs.Console.{state_to}
use Rattle.pipeline_c.proofs.console.put_states.Given as goal

abbrev pub invariant-loop-i : goal.invariant-loop-i
invariant-loop-i l = l.xs ≡ upto l.i (state_to l.states) l.initial.xs
