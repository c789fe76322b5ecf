use Rattle.std.proofs.Common.{arith, length-take}
use Rattle.engines.specs.declared.node.Node.{Node}
use Rattle.engines.proofs.Sorting.{sorted_none, sorted_turn, sorted_front, sorted_all}
use Rattle.engines.proofs.node.state_sets.Goals as goal

pub loop-i-init : goal.loop-i-init
loop-i-init c = (omega arith, omega arith, omega arith, sorted_none _)

pub loop-i-preserved : goal.loop-i-preserved
loop-i-preserved c = (omega arith, omega arith, omega arith, sorted_turn _ _ _ _ (omega (arith, c.min.ensures, length-take {A = Node})) c.loop-i.invariant.3 (c.note_state-s.ensures.by_index, (c.note_state-s.ensures.by_index_2, c.note_state-s.ensures.by_index_3)))

pub returns : goal.returns
returns c =
    sorted_all _ _ _ _ c.loop-i.invariant.0 c.loop-i.invariant.1 c.loop-i.invariant.2
    (omega (arith, c.min.ensures, length-take {A = Node}))
    (omega (arith, c.min.ensures, length-take {A = Node}))
    (sorted_front c.args.at c.min.result _ _ (omega (arith, length-take {A = Node})) c.loop-i.invariant.3)
