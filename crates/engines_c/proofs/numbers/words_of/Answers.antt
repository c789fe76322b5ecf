use Rattle.std.proofs.Common.{rules}
use Rattle.engines_c.specs.Numbers.{cell, words_at}
use Rattle.engines_c.proofs.Filling.{made_by}
use Rattle.engines_c.proofs.numbers.words_of.Goals as goal

pub returns : goal.returns
unfolding words_at
returns c = made_by _ _ (λ i. cell c.args.xs.now c.args.at i) 0 (λ i y q k. search rules) _ 64 c.from_fn.ensures.items
