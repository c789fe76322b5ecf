use Rattle.std.proofs.Common.{sym, refl, ◌∙◌}
use Rattle.engines.proofs.Rounds.{left_turn, left_stop, left_none, left_full, left_length, placed_length}
use Rattle.flood.specs.Flood.{is_over, flood_rows}
use Rattle.flood.specs.declared.flood.FloodRun.{FloodRun}
use Rattle.flood.proofs.flood.Slots.record_run.Goals as goal

pub loop-left-init : goal.loop-left-init
unfolding flood_rows
loop-left-init c = record { rest = refl }

pub shape_of-part-then-run : goal.shape_of-part-then-run
shape_of-part-then-run c = left_length (λ (r : FloodRun). r.network) is_over _ _ c.loop-left.invariant ∙ placed_length _ _ _

pub returns-then-run : goal.returns-then-run
returns-then-run c = left_stop (λ (r : FloodRun). r.network) is_over _ _ c.loop-left.invariant c.if-run.true

pub shape_of-part-then-is_full : goal.shape_of-part-then-is_full
shape_of-part-then-is_full c = left_length (λ (r : FloodRun). r.network) is_over _ _ c.loop-left.invariant ∙ placed_length _ _ _

pub returns-then-is_full : goal.returns-then-is_full
returns-then-is_full c = left_full (λ (r : FloodRun). r.network) is_over _ _ c.loop-left.invariant (sym c.is_full.ensures ∙ c.if-is_full.true)

pub advance-step-requires : goal.advance-step-requires
advance-step-requires c = (c.loop-left-test.true, c.if-run.false)

pub loop-left-smaller : goal.loop-left-smaller
loop-left-smaller c = c.advance-step.ensures.less

pub loop-left-preserved : goal.loop-left-preserved
loop-left-preserved c = left_turn (λ (r : FloodRun). r.network) is_over _ _ c.loop-left.invariant (c.write_row-at.ensures.value, c.write_row-at.ensures.rows_after) c.advance-step.ensures

pub shape_of-part : goal.shape_of-part
shape_of-part c = left_length (λ (r : FloodRun). r.network) is_over _ _ c.loop-left.invariant ∙ placed_length _ _ _

pub returns : goal.returns
returns c = left_none (λ (r : FloodRun). r.network) is_over _ _ c.loop-left.invariant c.loop-left-test.false
