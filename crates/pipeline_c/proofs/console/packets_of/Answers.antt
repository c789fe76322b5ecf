use Rattle.std.proofs.Common.{rules}
use Rattle.pipeline.specs.Round.{no_packet}
use Rattle.pipeline_c.proofs.Tables.{made_is}
use Rattle.pipeline_c.specs.Console.{packets_at}
use Rattle.pipeline_c.proofs.console.packets_of.Goals as goal

pub returns : goal.returns
unfolding packets_at
returns c = made_is _ _ _ (λ i y q h. search rules) _ 64 no_packet c.from_fn.ensures.items
