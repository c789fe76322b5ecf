use Rattle.pipeline.specs.Pipeline.{packet_of}
use Rattle.pipeline.proofs.packet.full_packet.Goals as goal

pub returns : goal.returns
unfolding packet_of
returns c = rw (c.data-d.ensures, c.piggyback_state-state.ensures, c.piggyback_tx-tx.ensures)
