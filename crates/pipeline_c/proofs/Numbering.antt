-- A room as numbers: stores that keep a list's length.
use Rattle.std.proofs.Common.{◌≡◌, ℕ, ◌+◌, ◌*◌, List, length, get_or, length-set}
use lib.Seq.{length-sets}
use Rattle.pipeline.specs.Pipeline.{no_state}
use Rattle.pipeline.specs.Round.{no_packet}
use Rattle.pipeline_c.specs.Console.{put_log, put_state, state_to, packet_numbers, packet_to}
use Rattle.pipeline.specs.declared.two_pc_pipeline.TxLog.{TxLog}
use Rattle.pipeline.specs.declared.two_pc_pipeline.NodeTwoPcState.{NodeTwoPcState}
use Rattle.pipeline.specs.declared.two_pc_pipeline.RoundPacket.{RoundPacket}

pub packet_to_length : (qs : List RoundPacket) (i : ℕ) (xs : List ℕ) → length (packet_to qs i xs) ≡ length xs
unfolding packet_to
packet_to_length qs i xs = length-sets xs (9173 + i * 9) (packet_numbers (get_or qs i no_packet))

pub put_log_length : (at : ℕ) (g : TxLog) (xs : List ℕ) → length (put_log at g xs) ≡ length xs
unfolding put_log
put_log_length at g xs = rw (length-sets, length-set)

pub put_state_length : (at : ℕ) (s : NodeTwoPcState) (xs : List ℕ) → length (put_state at s xs) ≡ length xs
unfolding put_state
put_state_length at s xs = rw (length-sets, length-set, length-set, put_log_length)

pub state_to_length : (ss : List NodeTwoPcState) (i : ℕ) (xs : List ℕ) → length (state_to ss i xs) ≡ length xs
unfolding state_to
state_to_length ss i xs = put_state_length (789 + i * 131) (get_or ss i no_state) xs
