use Rattle.std.proofs.Common.{◌≤◌, ap, length, drop, ◌++◌, arith, length-take-le}
use Rattle.loops.specs.Upto.{upto_none, upto_turn, upto_all}
use Rattle.engines.specs.Clamp.{at_most64}
use Rattle.engines.specs.Nodes.{no_node}
use Rattle.engines.proofs.Places.{front_all}
use Rattle.engines.proofs.node.change_all.Goals as goal

pub loop-i-init : goal.loop-i-init
loop-i-init g c = upto_none _ _

pub loop-i-preserved : goal.loop-i-preserved
loop-i-preserved g c =
    let long = length-take-le c.min.result c.args.nodes (omega arith) in
    upto_turn _ _ c.loop-i.invariant (rw (c.change.ensures (omega (arith, long))))

pub returns : goal.returns
returns g c =
    let within : at_most64 c.args.n ≤ length c.args.nodes = omega arith in
    let long = length-take-le c.min.result c.args.nodes (omega arith) in
    let inv = rw c.min.ensures at c.loop-i.invariant in
    rw (← front_all no_node (g.C.Change.changed c.args.c.now) c.args.nodes (at_most64 c.args.n) within, c.min.ensures)
    (ap (λ l. l ++ drop (at_most64 c.args.n) c.args.nodes)
    (upto_all _ _ (omega (arith, long, c.min.ensures)) (omega (arith, long, c.min.ensures)) inv))
