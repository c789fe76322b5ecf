use Rattle.merges.specs.Merging.{only_of}
use Rattle.merges.proofs.Bitmaps.{only_is}
use Rattle.merges.proofs.merging.own_mark_only.Goals as goal

pub returns : goal.returns
unfolding only_of
returns c = rw (c.first_of.ensures, only_is c.args.n c.args.node_id c.with_mark-m.result c.with_mark-m.ensures)
