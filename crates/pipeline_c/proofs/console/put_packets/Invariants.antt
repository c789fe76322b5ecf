use Rattle.std.proofs.Common.{◌≡◌}
use Rattle.loops.specs.Upto.{upto}
use Rattle.pipeline_c.specs.Console.{packet_to}
use Rattle.pipeline_c.proofs.console.put_packets.Given as goal

abbrev pub invariant-loop-i : goal.invariant-loop-i
invariant-loop-i l = l.xs ≡ upto l.i (packet_to l.payloads) l.initial.xs
