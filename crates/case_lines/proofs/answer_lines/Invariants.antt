use Rattle.std.proofs.Common.{List, ℕ}
use Rattle.std.specs.List.{FoldsTo}
use Rattle.case_lines.specs.Lines.{numbers_of}
use Rattle.case_lines.proofs.answer_lines.Given as goal

-- the lines that were answered so far
abbrev pub invariant-loop-line : goal.invariant-loop-line
invariant-loop-line g l = (lines : List (List ℕ)) × FoldsTo (λ p line q. g.A.Answers.answered p (numbers_of line) q) l.fn.desk lines l.desk
