use Rattle.lines.proofs.Ends.{unbroken_noted}
use Rattle.lines.proofs.search.is_unbroken.Goals as goal

pub loop-b-preserved : goal.loop-b-preserved
loop-b-preserved c = unbroken_noted c.args.block.now c.loop-b.b-index c.loop-b.good c.loop-b.invariant
