use Rattle.std.proofs.Common.{◌≡◌, ◌+◌, get_or, arith, rules}
use Rattle.pipeline.specs.Pending.{no_entry}
use Rattle.pipeline_c.proofs.Tables.{made_is}
use Rattle.pipeline_c.specs.Console.{entry_numbered, log_at}
use Rattle.pipeline_c.proofs.console.log_of.Goals as goal

pub returns : goal.returns
unfolding log_at
returns c = rw (c.number.ensures, made_is _ _ (λ i. entry_numbered (get_or c.args.xs.now (c.args.at + 1 + i) 0)) (λ i y q h. let a : c.args.at + 1 + i ≡ c.args.at + (1 + i) = omega arith in rw a (search rules)) c.from_fn.result 64 no_entry c.from_fn.ensures.items)
