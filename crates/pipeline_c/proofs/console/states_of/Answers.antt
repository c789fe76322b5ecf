use Rattle.std.proofs.Common.{rules}
use Rattle.pipeline.specs.Pipeline.{no_state}
use Rattle.pipeline_c.proofs.Tables.{made_is}
use Rattle.pipeline_c.specs.Console.{states_at}
use Rattle.pipeline_c.proofs.console.states_of.Goals as goal

pub returns : goal.returns
unfolding states_at
returns c = made_is _ _ _ (λ i y q h. search rules) _ 64 no_state c.from_fn.ensures.items
