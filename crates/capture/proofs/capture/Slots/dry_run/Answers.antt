use Rattle.std.proofs.Common.{◌^◌, ◌<◌, rules}
use Rattle.capture.proofs.Running.{going_first, going_stop, going_short, going_none, going_turn}
use Rattle.capture.proofs.capture.Slots.dry_run.Goals as goal

pub loop-left-init : goal.loop-left-init
loop-left-init c = λ conf base state g e o. rw (← e) (going_first _ conf base state o)

pub returns-then-d : goal.returns-then-d
returns-then-d c = λ conf base state g e o. going_stop _ conf base state (c.loop-left.invariant conf base state g e o) c.loop-left-test.true c.if-d.true

pub returns-then-d-2 : goal.returns-then-d-2
returns-then-d-2 c = λ conf base state g e o. going_short _ conf base state (c.loop-left.invariant conf base state g e o) c.if-d-2.true

pub advance-s-requires : goal.advance-s-requires
advance-s-requires c = (c.loop-left-test.true, c.if-d.false)

pub loop-left-smaller : goal.loop-left-smaller
loop-left-smaller c = c.advance-s.ensures.left_lt_left

pub loop-left-preserved : goal.loop-left-preserved
loop-left-preserved c =
    let small : c.args.length < 2 ^ 64 = search rules in
    λ conf base state g e o. going_turn _ conf base state (c.loop-left.invariant conf base state g e o) (rw e (small))
    c.loop-left-test.true c.due_after-due.ensures (λ s shown. c.advance-s.ensures.advanced conf base s g shown)

pub returns : goal.returns
returns c = λ conf base state g e o. going_none _ conf base state (c.loop-left.invariant conf base state g e o) c.loop-left-test.false
