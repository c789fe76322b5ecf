use Rattle.std.proofs.Common.{sym, refl, ◌∙◌}
use Rattle.capture.proofs.Running.{writing_first, writing_stop, writing_full, writing_none, writing_turn}
use Rattle.capture.proofs.capture.Slots.record_run.Goals as goal

pub loop-left-init : goal.loop-left-init
loop-left-init c = (refl, λ conf base state g e o top. rw (← e) (writing_first _ conf base state _ o))

pub shape_of-part-then-d : goal.shape_of-part-then-d
shape_of-part-then-d c = c.loop-left.invariant.0

pub returns-then-d : goal.returns-then-d
returns-then-d c = λ conf base state g e o top. writing_stop _ conf base (c.loop-left.invariant.1 conf base state g e o top) c.if-d.true

pub shape_of-part-then-is_full : goal.shape_of-part-then-is_full
shape_of-part-then-is_full c = c.loop-left.invariant.0

pub returns-then-is_full : goal.returns-then-is_full
returns-then-is_full c = λ conf base state g e o top. writing_full _ conf base (c.loop-left.invariant.1 conf base state g e o top) (sym c.is_full.ensures ∙ c.if-is_full.true)

pub advance-s-requires : goal.advance-s-requires
advance-s-requires c = (c.loop-left-test.true, c.if-d.false)

pub loop-left-smaller : goal.loop-left-smaller
loop-left-smaller c = c.advance-s.ensures.left_lt_left

pub loop-left-preserved : goal.loop-left-preserved
loop-left-preserved c = (
  c.put_due-at.auto.rows ∙ c.loop-left.invariant.0,
  λ conf base state g e o top. writing_turn _ conf base (c.loop-left.invariant.1 conf base state g e o top) _ top c.count_states-r.ensures
      c.put_due-at.ensures.value c.put_due-at.ensures.rows_after (λ s shown. c.advance-s.ensures.advanced conf base s g shown),
)

pub shape_of-part : goal.shape_of-part
shape_of-part c = c.loop-left.invariant.0

pub returns : goal.returns
returns c = λ conf base state g e o top. writing_none _ conf base (c.loop-left.invariant.1 conf base state g e o top) c.loop-left-test.false
