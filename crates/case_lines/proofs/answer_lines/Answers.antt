use Rattle.std.proofs.Common.{◌++◌, ◌∷◌, [], ◌∙◌, subst}
use Rattle.std.proofs.lemmas.Fn.{FoldsTo-push}
use Rattle.case_lines.proofs.answer_lines.Goals as goal

pub loop-line-preserved : goal.loop-line-preserved
loop-line-preserved g c =
    let line = c.as_str.result.now in
    let before = c.loop-line.invariant in
    let step = subst (λ question. g.A.Answers.answered c.loop-line.desk question c.answer.new.self) (c.deref.ensures.value ∙ c.in_ok-asked.ensures.read) c.in_ok-answer.ensures in
    (before.0 ++ (line ∷ []), FoldsTo-push _ _ _ _ _ _ before.1 step)
