use Rattle.merges.specs.Merging.{raised_of}
use Rattle.merges.proofs.Phases.{lower, same, not_below, equal_to, higher}
use Rattle.merges.proofs.merging.raise.Goals as goal

pub returns-in-Less : goal.returns-in-Less
unfolding raised_of
returns-in-Less c d = rw (lower _ _ c.in-Less.ensures)

pub returns-in-Equal : goal.returns-in-Equal
unfolding raised_of
returns-in-Equal c d = let e = same _ _ c.in-Equal.ensures in rw (e, not_below, equal_to, c.joined.ensures, c.join_is_news.ensures)

pub returns-in-Greater : goal.returns-in-Greater
unfolding raised_of
returns-in-Greater c d = let h = higher _ _ c.in-Greater.ensures in rw (h.0, h.1)
