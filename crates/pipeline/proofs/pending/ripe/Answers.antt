use Rattle.std.proofs.Common.{arith}
use Rattle.marks.specs.Sets.{grown_all}
use Rattle.pipeline.specs.Pending.{ripe_of}
use Rattle.pipeline.proofs.pending.ripe.Goals as goal

pub returns : goal.returns
unfolding ripe_of
returns c = grown_all _ _ _ _ (omega arith) (omega arith) (omega arith) (omega arith) c.loop-t.invariant.0
