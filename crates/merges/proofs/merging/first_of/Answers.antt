use Rattle.std.proofs.Common.{arith}
use Rattle.merges.proofs.Bitmaps.{first_is}
use Rattle.merges.proofs.merging.first_of.Goals as goal

pub returns : goal.returns
returns c = first_is _ _ _ _ (omega arith) c.first_marks.ensures c.intersection.ensures
