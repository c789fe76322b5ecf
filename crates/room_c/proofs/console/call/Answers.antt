use native.Mathlib.Omega.{arith}
use Rattle.room_c.proofs.Making.{captured, piped, whole_read, part_read}
use Rattle.room_c.proofs.console.call.Goals as goal

pub returns-in-2 : goal.returns-in-2
returns-in-2 c = captured _ _ _ _ _ _ _ c.in-2.is c.capture_round-q.ensures.value c.capture_round-q.ensures.rows_after c.tell_round.ensures

pub returns-in-3 : goal.returns-in-3
returns-in-3 c = piped _ _ _ _ _ _ _ c.in-3.is c.pipeline_round-q.ensures.value c.pipeline_round-q.ensures.rows_after c.tell_round-in-3.ensures

pub returns-in-4-to-17 : goal.returns-in-4-to-17
returns-in-4-to-17 c = whole_read _ _ _ _ _ _ _ (omega arith) (omega arith) (c.read_whole.ensures.told_after, c.read_whole.ensures.floats_after)

pub returns-in-18-to-23 : goal.returns-in-18-to-23
returns-in-18-to-23 c = part_read _ _ _ _ _ _ _ (omega arith) (omega arith) (c.read_part.ensures.told_after, c.read_part.ensures.text_after)
