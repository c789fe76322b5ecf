-- RULES 7.5 and 10.4: what a round of the pipeline adds to the bytes sent. Assumes nothing: this is a statement, which
-- proofs/Sent.antt proves.
use Rattle.std.specs.Prelude.{ℕ, ◌+◌, List}
use Rattle.limits.specs.Limits.{header_bytes}
use Rattle.packets.specs.Packets.{pipeline_text, pipeline_within}
use Rattle.packets.specs.Writing.{text_len}
use Rattle.packets.specs.declared.TwoPcPacket.{TwoPcPacket}
use Rattle.engines.specs.declared.words.Draw.{Draw}
use Rattle.engines.specs.declared.network.Network.{Network}
use Rattle.flood.specs.Sent.{SentFor}
use Rattle.pipeline.specs.Pipeline.{packet_of}
use Rattle.pipeline.specs.Round.{size_of, initiator_of, preparing, run_round}
use Rattle.pipeline.specs.declared.pipeline.PipelineConf.{PipelineConf}
use Rattle.pipeline.specs.declared.pipeline.PipelinePart.{PipelinePart}

-- the packet that the initiator has prepared, whole: all flooders of the round send its text
abbrev pub prepared_packet : List ℕ → PipelineConf → Network → PipelinePart → Draw → TwoPcPacket
prepared_packet ws conf w p d = packet_of (size_of conf) (preparing ws conf w.slot p (initiator_of conf p) d).packet

-- (a packet within the limits has a text; a room has no other)
abbrev pub RoundSends : Type 0
RoundSends =
    (ws : List ℕ) (conf : PipelineConf) (w : Network) (p : PipelinePart) (d : Draw)
    → let full = prepared_packet ws conf w p d in
    SentFor (text_len (pipeline_within full) (pipeline_text full) + header_bytes) w (run_round ws conf w p d).network
