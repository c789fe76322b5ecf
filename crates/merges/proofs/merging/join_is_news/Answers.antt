use Rattle.std.proofs.Common.{arith}
use Rattle.merges.specs.Merging.{join_news}
use Rattle.merges.proofs.Bitmaps.{news_is}
use Rattle.merges.proofs.merging.join_is_news.Goals as goal

pub returns : goal.returns
unfolding join_news
returns c = news_is _ _ _ _ _ _ (omega arith) c.offered.ensures c.first_of.ensures c.difference-fresh.ensures
