use Rattle.std.proofs.Common.{arith}
use Rattle.marks.specs.Laws.{has_out}
use Rattle.pipeline.specs.Pending.{unanimous_of}
use Rattle.pipeline.proofs.pending.check_unanimity.Goals as goal

pub returns-then-t-ge64 : goal.returns-then-t-ge64
unfolding unanimous_of
returns-then-t-ge64 c = rw (has_out 64 c.args.s.pending c.args.t (omega arith) c.if-t-ge64.true)
