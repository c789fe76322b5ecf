use Rattle.std.proofs.Common.{le-ltb, lt-ltb}
use Rattle.pipeline.specs.Pipeline.{data_of}
use Rattle.pipeline.proofs.packet.data.Goals as goal

pub returns-then-not-fresh : goal.returns-then-not-fresh
unfolding data_of
returns-then-not-fresh c = rw c.if-not-fresh.true

pub returns-then-t-lt10 : goal.returns-then-t-lt10
unfolding data_of
returns-then-t-lt10 c = rw (c.if-not-fresh.false, lt-ltb _ _ c.if-t-lt10.true)

pub returns : goal.returns
unfolding data_of
returns c = rw (c.if-not-fresh.false, le-ltb _ _ c.if-t-lt10.false)
