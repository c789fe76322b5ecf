use Rattle.std.proofs.Common.{sym, ◌∙◌}
use Rattle.capture.specs.Boards.{length_by, slip_by}
use Rattle.engines.specs.Columns.{cell}
use Rattle.capture.proofs.ce.text_len.Goals as goal

pub returns-then-not-holds : goal.returns-then-not-holds
unfolding length_by
returns-then-not-holds c = rw (sym c.holds.ensures ∙ c.if-not-holds.true)

pub returns : goal.returns
unfolding length_by slip_by cell
returns c = rw (c.ce_parts_len.ensures, c.slip_at-s.ensures, sym c.holds.ensures ∙ c.if-not-holds.false)
