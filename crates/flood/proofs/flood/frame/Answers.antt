use Rattle.std.proofs.Common.{arith}
use Rattle.engines.proofs.Marking.{with_is}
use Rattle.flood.specs.Flood.{framed}
use Rattle.flood.proofs.flood.frame.Goals as goal

pub returns : goal.returns
unfolding framed
returns c = rw (c.if-gone.false, with_is _ _ _ (omega arith) (omega arith) c.with_mark.ensures)
