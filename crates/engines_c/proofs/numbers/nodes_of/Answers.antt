use Rattle.std.proofs.Common.{rules, ◌*◌}
use Rattle.engines.specs.Nodes.{no_node}
use Rattle.engines_c.specs.Numbers.{node_at, nodes_at}
use Rattle.engines_c.proofs.Filling.{made_by}
use Rattle.engines_c.proofs.numbers.nodes_of.Goals as goal

pub returns : goal.returns
unfolding nodes_at
returns c = made_by _ _ (λ i. node_at c.args.xs.now c.args.at (i * 8)) no_node (λ i y q k. search rules) _ 64 c.from_fn.ensures.items
