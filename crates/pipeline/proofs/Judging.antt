-- Judging what is due is judging what is pending.
use Rattle.std.proofs.Common.{◌≡◌, ℕ, ◌<◌, Bool, true, false, ◌&&◌, ltb, List, get_or, sym, refl, ap, ◌∙◌, lt-ltb}
use Rattle.loops.specs.Pick.{either}
use Rattle.loops.specs.Upto.{upto_same}
use Rattle.marks.specs.Marks.{has, marks}
use Rattle.marks.specs.Sets.{has_marks}
use Rattle.engines.specs.Marked.{over_marks}
use Rattle.pipeline.specs.Pending.{common_marks, is_judged, judge_at, ripe_of, settle_at, judged}
use Rattle.pipeline.specs.declared.two_pc_pipeline.NodeTwoPcState.{NodeTwoPcState}

within : (i : ℕ) (b : Bool) → i < 64 → (ltb i 64 && b) ≡ b
within i b h = rw (lt-ltb i 64 h)

due_has : (m n r : ℕ) (rounds : List ℕ) (i : ℕ) → i < 64 → has (common_marks m (ripe_of n r rounds)) i ≡ (has m i && is_judged n r (get_or rounds i 0))
unfolding common_marks ripe_of
due_has m n r rounds i h =
    has_marks 64 (λ j. has m j && has (marks 64 (λ t. is_judged n r (get_or rounds t 0))) j) i ∙
    within i (has m i && has (marks 64 (λ t. is_judged n r (get_or rounds t 0))) i) h ∙
    ap (λ (b : Bool). has m i && b) (has_marks 64 (λ t. is_judged n r (get_or rounds t 0)) i ∙ within i (is_judged n r (get_or rounds i 0)) h)

two_tests : {S : Type 0} (a b : Bool) (x s : S) → either a (either b x s) s ≡ either (a && b) x s
two_tests true b x s = refl
two_tests false b x s = refl

pub judged_due : (n r : ℕ) (rounds : List ℕ) (s : NodeTwoPcState) → over_marks (common_marks s.pending (ripe_of n r rounds)) (settle_at n) s ≡ judged n r rounds s
unfolding judged over_marks judge_at settle_at
judged_due n r rounds s = sym (upto_same _ _ s 64 (λ i h t. two_tests (has s.pending i) (is_judged n r (get_or rounds i 0)) (settle_at n i t) t ∙ ap (λ (b : Bool). either b (settle_at n i t) t) (sym (due_has s.pending n r rounds i h))))
