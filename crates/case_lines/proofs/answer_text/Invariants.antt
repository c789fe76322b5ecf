use Rattle.std.proofs.Common.{length}
use Rattle.std.specs.List.{FoldsTo}
use Rattle.case_lines.specs.Lines.{numbers_read, lines_of}
use Rattle.case_lines.proofs.answer_text.Given as goal

abbrev pub invariant-loop-line : goal.invariant-loop-line
invariant-loop-line g l =
    (last : _) → FoldsTo (λ p line q. g.A.Answers.answered p (numbers_read l.fn.most line) q) l.desk (lines_of l.rest) last
    → FoldsTo (λ p line q. g.A.Answers.answered p (numbers_read l.fn.most line) q) l.fn.desk (lines_of l.fn.text) last

abbrev pub decreases-loop-line : goal.decreases-loop-line
decreases-loop-line g l = length l.rest
