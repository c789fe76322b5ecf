use mathlib.Core.Path.{ap, sym, ◌∙◌}
use native.Mathlib.Omega.{arith}
use Rattle.std.specs.Prelude.{Ok}
use Rattle.loops.specs.Table.{filled_all, filled_none, filled_turn}
use Rattle.graph.proofs.Rules.{graph_filled, row_is, size_parts}
use Rattle.graph.proofs.network.build.Goals as goal

pub loop-i-init : goal.loop-i-init
loop-i-init c = (omega arith, filled_none 0 64 _)

pub loop-i-preserved : goal.loop-i-preserved
loop-i-preserved c =
    let size = size_parts c.args.n (sym c.check_size.ensures ∙ c.in_ok-check_size.was) in
    (omega arith, filled_turn 0 64 _ (omega (arith, size.1)) c.loop-i.invariant.1 (row_is _ _ _ size.1 (omega arith) c.row_by.ensures))

pub returns : goal.returns
returns c = rw (sym c.check_size.ensures ∙ c.in_ok-check_size.was) (ap Ok (graph_filled _ _ (filled_all 0 64 _ c.loop-i.invariant.0 c.loop-i-test.false c.loop-i.invariant.1)))
