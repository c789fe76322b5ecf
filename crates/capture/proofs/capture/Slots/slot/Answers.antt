use Rattle.capture.specs.Capture.{begun, slot_of}
use Rattle.capture.proofs.Acting.{slot_begun}
use Rattle.capture.proofs.capture.Slots.slot.Goals as goal

pub returns : goal.returns
unfolding slot_of
returns c = λ conf base state g o. c.finish.ensures conf base (begun conf state) g (rw c.pass.ensures (slot_begun conf base state o))
