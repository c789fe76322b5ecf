use Rattle.std.proofs.Common.{arith}
use Rattle.capture.proofs.Running.{advanced_idle, advanced_slot}
use Rattle.capture.proofs.capture.Slots.advance.Goals as goal

pub overflow_sub-result : goal.overflow_sub-result
overflow_sub-result c = c.idle_slots-k.ensures.upper_bound

pub returns-then-k-gt0 : goal.returns-then-k-gt0
returns-then-k-gt0 c =
    record {
      left_lt_left = omega (arith, c.idle_slots-k.ensures.upper_bound, c.if-k-gt0.true);
      advanced = λ conf base state g o. rw c.pass.ensures
          (advanced_idle _ conf base state _ _ c.if-k-gt0.true c.idle_slots-k.ensures.upper_bound (c.idle_slots-k.ensures.idle conf base state _ g o c.if-k-gt0.true) o);
    }

pub returns : goal.returns
returns c = record { left_lt_left = omega (arith, c.requires.0); advanced = λ conf base state g o. advanced_slot _ conf base state _ c.requires.0 c.requires.1 o (c.slot.ensures conf base state g o) }
