use mathlib.Core.Path.{sym, ap, ◌∙◌}
use mathlib.Core.Bool.{Bool, not, ◌&&◌}
use native.Mathlib.Omega.{arith}
use Rattle.marks.specs.Marks.{has}
use Rattle.marks.specs.Sets.{all_beyond}
use Rattle.graph.proofs.Rules.{all_is}
use Rattle.graph.proofs.sets.all_marked.Goals as goal

pub returns-then-n-gt64 : goal.returns-then-n-gt64
returns-then-n-gt64 c = sym (all_beyond c.args.m c.args.n (omega arith) c.if-n-gt64.true)

pub returns : goal.returns
returns c = all_is c.args.m c.args.n _ (λ j. c.difference.ensures j ∙ ap (λ (t : Bool). t && not (has c.args.m j)) (c.first_marks.ensures j)) c.if-n-gt64.false (omega arith)
