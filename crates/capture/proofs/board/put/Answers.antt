use Rattle.std.proofs.Common.{eqb, ◌∙◌}
use Rattle.marks.specs.Marks.{has}
use Rattle.capture.proofs.Unpacking.{put_with, put_without}
use Rattle.capture.proofs.board.put.Goals as goal

pub returns-then-yes : goal.returns-then-yes
returns-then-yes c = λ j. rw c.if-yes.true (c.with_mark.ensures j ∙ put_with _ _ j c.requires)

pub returns : goal.returns
returns c =
    λ j. rw c.if-yes.false
    (c.without_mark.ensures j ∙ put_without (has c.args.m j) (eqb j c.args.i))
