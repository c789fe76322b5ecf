use Rattle.std.proofs.Common.{lt-ltb}
use Rattle.engines.proofs.Placing.{refused_used, refused_by}
use Rattle.engines.proofs.rows.rows_refused.Goals as goal

pub returns-then-whole-used : goal.returns-then-whole-used
returns-then-whole-used c = rw (lt-ltb _ _ c.if-whole-used.true) (refused_used _ _ _ c.if-whole-used.true)

pub returns-else-whole-used : goal.returns-else-whole-used
returns-else-whole-used c = refused_by _ _ _ c.if-whole-used.false
