use Rattle.std.proofs.Common.{◌∙◌, refl, rules}
use Rattle.pipeline.proofs.Counting.{packet_eq, cover_yes, cover_out, cover_other}
use Rattle.pipeline.proofs.round.count_covered.Goals.{then-is_marked+then-eq, else-is_marked, else-is_marked-via-then-is_marked+else-eq, else-is_marked-via-else-is_marked}
use Rattle.pipeline.proofs.round.count_covered.Goals as goal

pub loop-i-preserved : goal.loop-i-preserved
loop-i-preserved c =
    elim c.if-is_marked.branch [
      | then-is_marked+then-eq w ↦
          rw w.covered-is (cover_yes _ _ _ _ _ c.loop-i.invariant (search rules) (w.if-eq.ensures ∙ packet_eq _ (λ o p. refl) _ _))
      | else-is_marked w ↦
          rw w.covered-is (
          elim w.else-is_marked.branch [
            | else-is_marked-via-then-is_marked+else-eq v ↦ cover_other _ _ _ _ _ c.loop-i.invariant (search rules) (v.if-eq.ensures ∙ packet_eq _ (λ o p. refl) _ _)
            | else-is_marked-via-else-is_marked v ↦ cover_out _ _ _ _ _ c.loop-i.invariant (search rules)
          ])
    ]
