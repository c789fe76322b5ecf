use mathlib.Core.Path.{◌∙◌}
use Rattle.graph.proofs.Spreads.{spread_done, spread_turn}
use Rattle.graph.proofs.network.spread.Goals as goal

pub loop-i-preserved : goal.loop-i-preserved
loop-i-preserved c = λ j. spread_turn c.args.adj.now c.loop-i.out c.union-out.result _ _ c.in-Some.i c.in-Some.ensures.steps c.union-out.ensures j ∙ c.loop-i.invariant j

pub returns : goal.returns
returns c = λ j. spread_done c.args.adj.now _ _ _ c.in-None.ensures.steps.0 j (c.loop-i.invariant j)
