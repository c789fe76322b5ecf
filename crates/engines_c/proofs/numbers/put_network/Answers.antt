use Rattle.engines_c.proofs.Stating.{network_put}
use Rattle.engines_c.proofs.numbers.put_network.Goals as goal

pub returns : goal.returns
returns c =
    network_put c.args.sent c.args.counts c.args.at c.args.w c.args.xs.now
    c.put.ensures c.put-2.ensures c.put-3.ensures
    c.put_metrics.ensures c.put_nodes.ensures
