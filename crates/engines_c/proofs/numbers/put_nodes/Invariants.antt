use Rattle.std.proofs.Common.{◌≡◌}
use Rattle.loops.specs.Upto.{upto}
use Rattle.engines_c.specs.Numbers.{put_node}
use Rattle.engines_c.proofs.numbers.put_nodes.Given as goal

abbrev pub invariant-loop-i : goal.invariant-loop-i
invariant-loop-i l = l.xs ≡ upto l.i (put_node l.at l.fn.nodes) l.initial.xs
