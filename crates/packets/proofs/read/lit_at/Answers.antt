use Rattle.std.proofs.Common.{◌∙◌}
use Rattle.packets.proofs.Slices.{found_at}
use Rattle.packets.proofs.read.lit_at.Goals as goal

pub returns : goal.returns
returns c = rw c.min.ensures at c.starts_with.ensures.value ∙ found_at c.args.s.now c.args.at c.args.t.now
