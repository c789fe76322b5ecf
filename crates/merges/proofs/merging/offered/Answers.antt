use Rattle.std.proofs.Common.{◌∙◌}
use Rattle.merges.proofs.Bitmaps.{offered_is}
use Rattle.merges.proofs.merging.offered.Goals as goal

pub returns : goal.returns
returns c = c.first_of-2.ensures ∙ offered_is _ _ _ c.first_of.ensures
