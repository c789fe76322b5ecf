use Rattle.merges.specs.Merging.{marked_of}
use Rattle.merges.proofs.Bitmaps.{marked_is}
use Rattle.merges.proofs.merging.marked.Goals as goal

pub returns : goal.returns
unfolding marked_of
returns c = rw (c.first_of.ensures, marked_is c.args.b.marks c.args.b.len c.args.node_id c.with_mark-m.result c.with_mark-m.ensures)
