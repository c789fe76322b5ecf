use Rattle.std.proofs.Common.{length, ap, ◌∙◌}
use Rattle.loops.specs.Upto.{upto_keeps}
use Rattle.pipeline_c.proofs.Numbering.{packet_to_length}
use Rattle.pipeline_c.proofs.console.put_packets.Goals as goal

pub shape_of-xs : goal.shape_of-xs
shape_of-xs c = ap length c.loop-i.invariant ∙ upto_keeps length _ _ _ (packet_to_length _)
