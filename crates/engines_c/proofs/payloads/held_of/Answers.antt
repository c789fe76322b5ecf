use Rattle.std.proofs.Common.{◌∙◌, arith}
use Rattle.loops.specs.Table.{filled_none, filled_turn, filled_all}
use Rattle.engines_c.specs.Payloads.{held_at}
use Rattle.engines_c.proofs.Storing.{filled_whole}
use Rattle.engines_c.proofs.payloads.held_of.Goals as goal

pub loop-i-init : goal.loop-i-init
loop-i-init c = rw c.without-held.ensures (filled_none _ 64 _)

pub loop-i-preserved : goal.loop-i-preserved
loop-i-preserved c = filled_turn _ 64 _ (omega arith) c.loop-i.invariant c.payload_of.ensures

pub returns : goal.returns
unfolding held_at
returns c = filled_all _ 64 _ (omega arith) (omega arith) c.loop-i.invariant ∙ filled_whole _ 64 _
