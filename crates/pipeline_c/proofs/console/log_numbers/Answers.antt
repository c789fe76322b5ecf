use Rattle.std.proofs.Common.{rules}
use Rattle.pipeline_c.proofs.Tables.{made_is}
use Rattle.pipeline_c.specs.Console.{log_numbers}
use Rattle.pipeline_c.proofs.console.log_numbers.Goals as goal

pub returns : goal.returns
unfolding log_numbers
returns c = made_is _ _ _ (λ i y q h. search rules) _ 64 0 c.from_fn.ensures.items
