use Rattle.std.proofs.Common.{◌∙◌, arith, rules, le-leb, lt-ltb}
use Rattle.merges.specs.Merging.{all_hold, no_payload}
use Rattle.merges.proofs.Ranges.{all_taken}
use Rattle.merges.proofs.merging.all_hold.Goals as goal

pub returns : goal.returns
unfolding all_hold
returns c =
    rw (lt-ltb 0 c.args.n (omega arith), le-leb c.args.n 64 (omega arith)) (c.every.ensures ∙ all_taken _ no_payload c.args.n c.args.payloads.now (search rules))
