use Rattle.std.proofs.Common.{◌≡◌}
use Rattle.loops.specs.Upto.{upto}
use Rattle.engines.specs.Marked.{place}
use Rattle.engines.specs.Nodes.{no_node}
use Rattle.engines.proofs.node.change_all.Given as goal

abbrev pub invariant-loop-i : goal.invariant-loop-i
invariant-loop-i g l = l.v-items ≡ upto l.i (place no_node (g.C.Change.changed l.c)) l.initial.v-items
