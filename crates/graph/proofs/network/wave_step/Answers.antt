use mathlib.Core.Path.{refl, ap, ◌∙◌}
use mathlib.Core.Bool.{Bool, ◌&&◌}
use native.Mathlib.Omega.{arith}
use borrow.Author.Tests.{eq-eqb, ne_eqb}
use Rattle.marks.specs.Marks.{has}
use Rattle.marks.specs.Sets.{marks_whole}
use Rattle.graph.specs.Waves.{moved_to, step_of}
use Rattle.graph.proofs.Spreads.{moved_is}
use Rattle.graph.proofs.network.wave_step.Goals as goal

pub returns-then-front-eq0 : goal.returns-then-front-eq0
unfolding step_of moved_to
returns-then-front-eq0 c k e =
    let w = c.args.w in
    moved_is w k _ _ _ (marks_whole _ _ (omega arith) (λ j h. c.difference-unseen.ensures j)) (rw (eq-eqb c.intersection-front.result 0 c.if-front-eq0.true) refl)
    ∙ ap (moved_to w k) (marks_whole _ _ (omega arith) (λ j h. c.intersection-front.ensures j ∙ ap (λ (t : Bool). t && has w.unseen j) (c.spread.ensures j)))

pub returns-else-front-eq0 : goal.returns-else-front-eq0
unfolding step_of moved_to
returns-else-front-eq0 c k e =
    let w = c.args.w in
    moved_is w k _ _ _ (marks_whole _ _ (omega arith) (λ j h. c.difference-unseen.ensures j)) (rw (ne_eqb c.intersection-front.result 0 (omega arith)) e)
    ∙ ap (moved_to w k) (marks_whole _ _ (omega arith) (λ j h. c.intersection-front.ensures j ∙ ap (λ (t : Bool). t && has w.unseen j) (c.spread.ensures j)))
