use Rattle.std.proofs.Common.{◌∙◌, rules, le-leb}
use Rattle.merges.specs.Merging.{any_holds, no_payload}
use Rattle.merges.proofs.Ranges.{any_taken}
use Rattle.merges.proofs.merging.any_holds.Goals as goal

pub returns : goal.returns
unfolding any_holds
returns c =
    rw (le-leb c.args.n 64 c.if-n-gt-POSITIONS.false) (c.some.ensures ∙ any_taken _ no_payload c.args.n c.args.payloads.now (search rules))
