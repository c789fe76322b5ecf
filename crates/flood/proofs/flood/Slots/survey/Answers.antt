use Rattle.std.proofs.Common.{◌^◌, ◌<◌, refl, arith, rules}
use Rattle.engines.proofs.Rounds.{counted_turn, counted_stop, counted_none, counted_short}
use Rattle.flood.specs.Flood.{is_over}
use Rattle.flood.specs.declared.flood.FloodRun.{FloodRun}
use Rattle.flood.proofs.FloodShortage.{flood_short}
use Rattle.flood.proofs.flood.Slots.survey.Goals as goal

pub loop-left-init : goal.loop-left-init
loop-left-init c = record { run = refl; rows = omega arith; small = omega arith }

pub returns-then-run : goal.returns-then-run
returns-then-run c = counted_stop (λ (r : FloodRun). r.network) is_over _ _ _ _ _ c.loop-left.invariant c.loop-left-test.true c.if-run.true

pub returns-then-run-2 : goal.returns-then-run-2
returns-then-run-2 c = counted_short (λ (r : FloodRun). r.network) is_over _ _ _ _ _ c.loop-left.invariant (flood_short _ _ _) c.if-run-2.true

pub advance-step-requires : goal.advance-step-requires
advance-step-requires c = (c.loop-left-test.true, c.if-run.false)

pub loop-left-smaller : goal.loop-left-smaller
loop-left-smaller c = c.advance-step.ensures.less

pub loop-left-preserved : goal.loop-left-preserved
loop-left-preserved c =
    let fits : c.args.self.now.conf.length < 2 ^ 64 = search rules in
    counted_turn (λ (r : FloodRun). r.network) is_over _ _ c.loop-left.invariant (fits) c.loop-left-test.true c.due_after-due.ensures c.advance-step.ensures

pub returns : goal.returns
returns c = counted_none (λ (r : FloodRun). r.network) is_over _ _ _ _ _ c.loop-left.invariant c.loop-left-test.false
