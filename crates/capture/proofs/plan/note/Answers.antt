use Rattle.std.proofs.Common.{sym, ◌∙◌, rules}
use Rattle.capture.specs.Plan.{note_at}
use Rattle.capture.proofs.plan.note.Goals as goal

pub returns-then-is_marked : goal.returns-then-is_marked
unfolding note_at
returns-then-is_marked c = (rw (sym c.is_marked.ensures ∙ c.if-is_marked.true), search rules)

pub returns : goal.returns
unfolding note_at
returns c = (rw (sym c.is_marked.ensures ∙ c.if-is_marked.false), search rules)
