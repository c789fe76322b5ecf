use Rattle.merges.specs.Merging.{join_of}
use Rattle.merges.proofs.Bitmaps.{joined_is}
use Rattle.merges.proofs.merging.joined.Goals as goal

pub returns : goal.returns
unfolding join_of
returns c = rw (c.first_of.ensures, joined_is c.args.n c.args.a c.args.b c.offered.result c.union-both.result c.offered.ensures c.union-both.ensures)
