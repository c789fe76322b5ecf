use mathlib.Core.Path.{ap, ◌∙◌}
use Prim.Native.Nat.{◌+◌, ◌*◌}
use native.Mathlib.Omega.{arith}
use lib.ListN.{length, get_or}
use lib.Seq.{length-sets}
use Rattle.loops.specs.Upto.{upto_none, upto_turn, upto_all, upto_keeps}
use Rattle.engines.specs.Nodes.{no_node}
use Rattle.engines_c.specs.Numbers.{node_numbers, put_node, put_nodes}
use Rattle.engines_c.proofs.numbers.put_nodes.Goals as goal

pub loop-i-init : goal.loop-i-init
loop-i-init c = upto_none _ _

pub loop-i-preserved : goal.loop-i-preserved
loop-i-preserved c = upto_turn _ _ c.loop-i.invariant c.put_node.ensures

pub shape_of-xs : goal.shape_of-xs
shape_of-xs c =
    ap length c.loop-i.invariant ∙
    upto_keeps length (put_node c.args.at c.args.nodes) c.args.xs.now c.loop-i.i
    (λ i t. length-sets t (c.args.at + i * 8) (node_numbers (get_or c.args.nodes i no_node)))

pub returns : goal.returns
unfolding put_nodes
returns c = upto_all _ _ (omega arith) (omega arith) c.loop-i.invariant
