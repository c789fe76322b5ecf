use Rattle.std.proofs.Common.{refl}
use Rattle.capture.proofs.Acting.{slot_acted}
use Rattle.capture.proofs.capture.Slots.act.Goals as goal

pub returns : goal.returns
returns c = slot_acted _ _ _ c.plan_slot-p.ensures c.bytes_of-sent.ensures refl refl refl c.tell_all-t.ensures c.turn.ensures
