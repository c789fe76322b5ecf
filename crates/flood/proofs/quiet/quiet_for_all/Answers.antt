use Rattle.std.proofs.Common.{◌≡◌, rules, arith, get_or, take, get_or-take, length-take}
use Rattle.engines.specs.Nodes.{no_node}
use Rattle.engines.specs.declared.node.Node.{Node}
use Rattle.flood.proofs.Quieting.{alone_more}
use Rattle.flood.proofs.quiet.quiet_for_all.Goals as goal

pub loop-i-preserved : goal.loop-i-preserved
loop-i-preserved c =
    let here : get_or (take c.min.result c.args.at) c.loop-i.i no_node ≡ get_or c.args.at c.loop-i.i no_node = get_or-take c.min.result c.args.at c.loop-i.i no_node (omega (arith, length-take {A = Node})) in
    (search rules, alone_more c.args.links.now c.args.at _ _ _ _ c.loop-i.invariant.1 (rw here at c.quiet_for-k.ensures))
