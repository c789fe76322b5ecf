use Rattle.std.proofs.Common.{rules, ◌+◌, ◌%◌}
use Rattle.engines_c.specs.Numbers.{cell}
use Rattle.engines_c.specs.Payloads.{bytes_at}
use Rattle.engines_c.proofs.Filling.{made_by}
use Rattle.engines_c.proofs.payloads.bytes_of.Goals as goal

pub returns : goal.returns
unfolding bytes_at
returns c = made_by _ _ (λ i. cell c.args.xs.now c.args.at (c.args.k + i) % 256) 0 (λ i y q k. search rules) _ 32 c.from_fn.ensures.items
