use Rattle.std.proofs.Common.{arith, refl}
use Rattle.loops.specs.Upto.{upto_none, upto_turn, upto_all}
use Rattle.engines.specs.Columns.{cell}
use Rattle.capture.specs.Boards.{data_in, payloads_by}
use Rattle.capture.proofs.board.pack_held.Goals as goal

pub loop-i-init : goal.loop-i-init
loop-i-init c = upto_none _ _

pub loop-i-preserved : goal.loop-i-preserved
unfolding data_in cell
loop-i-preserved c = upto_turn _ _ c.loop-i.invariant (rw (c.payload_by.ensures c.args.held refl))

pub returns : goal.returns
unfolding payloads_by
returns c = upto_all _ _ (omega arith) (omega arith) c.loop-i.invariant
