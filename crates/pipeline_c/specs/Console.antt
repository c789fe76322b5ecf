-- RULES 17, entries on slices and numbers: a pipeline room as a lent list of numbers. A place
-- past the end reads as 0, and nothing is put there. Assumes nothing.
use Rattle.std.specs.Prelude.{ℕ, ◌+◌, ◌*◌, ◌%◌, false, Option, Some, None, Ok, List, [], ◌∷◌, ◌==◌, nat_lt, slice_index, slice_index_or, slice_set, Float}
use Rattle.std.proofs.lemmas.List.Edits.{sets}
use mir.Val.{bool_byte}
use Rattle.loops.specs.Pick.{either}
use Rattle.loops.specs.Table.{tabulate}
use Rattle.loops.specs.Upto.{upto}
use Rattle.engines.specs.Network.{new_network}
use Rattle.engines_c.specs.Numbers.{truth, words_at, network_at, put_network}
use Rattle.pipeline.specs.Pending.{no_entry}
use Rattle.pipeline.specs.Pipeline.{no_state}
use Rattle.pipeline.specs.Round.{no_packet, new_part}
use Rattle.pipeline.specs.declared.two_pc_pipeline.LogEntry.{LogEntry}
use Rattle.pipeline.specs.declared.two_pc_pipeline.TxLog.{TxLog}
use Rattle.pipeline.specs.declared.two_pc_pipeline.NodeTwoPcState.{NodeTwoPcState}
use Rattle.pipeline.specs.declared.two_pc_pipeline.Outcome.{Outcome}
use Rattle.pipeline.specs.declared.two_pc_pipeline.RoundPacket.{RoundPacket}
use Rattle.pipeline.specs.declared.two_pc_pipeline.Records.{Records}
use Rattle.pipeline.specs.declared.two_pc_pipeline.Txs.{Txs}
use Rattle.pipeline.specs.declared.pipeline.PipelinePart.{PipelinePart}
use Rattle.pipeline.specs.declared.pipeline.PipelineConf.{PipelineConf}
use Rattle.pipeline_c.specs.Play.{Playing}
use Rattle.pipeline_c.specs.declared.rounds.Played.{Played}

-- ---- from numbers

-- An entry of a log: its transaction, and 256 more if it was committed. (A number above 511 reads as committed too.)
abbrev pub entry_numbered : ℕ → LogEntry
entry_numbered k = record { tx = k % 256; committed = nat_lt 255 k }

unfoldable pub log_at : List ℕ → ℕ → TxLog
log_at xs at = record { len = slice_index xs at; entries = tabulate 64 (λ i. entry_numbered (slice_index xs (at + 1 + i))) }

-- What a position knows: its log (65 numbers), pending, aborts, and the votes on each transaction.
unfoldable pub state_at : List ℕ → ℕ → NodeTwoPcState
state_at xs at =
    record { log = log_at xs at; pending = slice_index xs (at + 65); aborts = slice_index xs (at + 66); votes = words_at xs (at + 67) }

unfoldable pub states_at : List ℕ → List NodeTwoPcState
states_at xs = tabulate 64 (λ i. state_at xs (789 + i * 131))

-- A piggyback: whether there is one, its transaction, its outcome.
abbrev pub piggyback_numbered : ℕ → ℕ → ℕ → Option Outcome
piggyback_numbered there t outcome = either (there == 0) None (Some (record { tx = t; committed = truth outcome }))

-- A packet: its fields in their order, the piggyback last.
unfoldable pub packet_at : List ℕ → ℕ → RoundPacket
packet_at xs at =
    record {
      tx = slice_index xs at;
      bits = slice_index xs (at + 1);
      abort = truth (slice_index xs (at + 2));
      nack = slice_index xs (at + 3);
      fresh = truth (slice_index xs (at + 4));
      sender = slice_index xs (at + 5);
      piggyback = piggyback_numbered (slice_index xs (at + 6)) (slice_index xs (at + 7)) (slice_index xs (at + 8));
    }

unfoldable pub packets_at : List ℕ → List RoundPacket
packets_at xs = tabulate 64 (λ i. packet_at xs (9173 + i * 9))

unfoldable pub txs_at : List ℕ → Txs
txs_at xs = record { counter = slice_index xs 19; starts = words_at xs 20; rounds = words_at xs 84 }

unfoldable pub records_at : List ℕ → Records
records_at xs = record { log = log_at xs 148; ends = words_at xs 213 }

unfoldable pub part_at : List ℕ → PipelinePart
part_at xs =
    record {
      round = slice_index xs 2;
      stop = truth (slice_index xs 4);
      states = states_at xs;
      txs = txs_at xs;
      piggyback = piggyback_numbered (slice_index xs 15) (slice_index xs 16) (slice_index xs 17);
      records = records_at xs;
      payloads = packets_at xs;
      holding = slice_index xs 18;
    }

unfoldable pub played_at : List ℕ → Played
played_at xs =
    record {
      cursor = slice_index xs 6;
      used = slice_index xs 5;
      count = 0;
      network = network_at xs 3 7 277;
      part = part_at xs;
    }

-- before a round is played on such a room, with this buffer
abbrev pub playing_at : List ℕ → List ℕ → Playing
playing_at rows xs = record { told = Ok tt; rows = rows; played = played_at xs }

-- ---- to numbers

abbrev pub entry_number : LogEntry → ℕ
entry_number e = either e.committed (e.tx + 256) e.tx

unfoldable pub log_numbers : TxLog → List ℕ
log_numbers g = tabulate 64 (λ i. entry_number (slice_index_or g.entries i no_entry))

unfoldable pub put_log : ℕ → TxLog → List ℕ → List ℕ
put_log at g xs = sets (slice_set xs at g.len) (at + 1) (log_numbers g)

unfoldable pub put_state : ℕ → NodeTwoPcState → List ℕ → List ℕ
put_state at s xs = sets (slice_set (slice_set (put_log at s.log xs) (at + 65) s.pending) (at + 66) s.aborts) (at + 67) s.votes

unfoldable pub state_to : List NodeTwoPcState → ℕ → List ℕ → List ℕ
state_to ss i xs = put_state (789 + i * 131) (slice_index_or ss i no_state) xs

unfoldable pub put_states : List NodeTwoPcState → List ℕ → List ℕ
put_states ss xs = upto 64 (state_to ss) xs

abbrev pub piggyback_there : Option Outcome → ℕ
piggyback_there None = 0
piggyback_there (Some o) = 1

abbrev pub piggyback_number : Option Outcome → ℕ
piggyback_number None = 0
piggyback_number (Some o) = o.tx

abbrev pub piggyback_outcome : Option Outcome → ℕ
piggyback_outcome None = 0
piggyback_outcome (Some o) = bool_byte o.committed

unfoldable pub packet_numbers : RoundPacket → List ℕ
packet_numbers q =
    q.tx ∷ q.bits ∷ bool_byte q.abort ∷ q.nack ∷ bool_byte q.fresh ∷ q.sender ∷ piggyback_there q.piggyback ∷ piggyback_number q.piggyback ∷
    piggyback_outcome q.piggyback ∷ []

unfoldable pub packet_to : List RoundPacket → ℕ → List ℕ → List ℕ
packet_to qs i xs = sets xs (9173 + i * 9) (packet_numbers (slice_index_or qs i no_packet))

unfoldable pub put_packets : List RoundPacket → List ℕ → List ℕ
put_packets qs xs = upto 64 (packet_to qs) xs

unfoldable pub clock_numbers : PipelinePart → ℕ → ℕ → List ℕ
clock_numbers p cursor used = bool_byte p.stop ∷ used ∷ cursor ∷ []

unfoldable pub head_numbers : PipelinePart → List ℕ
head_numbers p = piggyback_there p.piggyback ∷ piggyback_number p.piggyback ∷ piggyback_outcome p.piggyback ∷ p.holding ∷ p.txs.counter ∷ []

unfoldable pub put_head : PipelinePart → ℕ → ℕ → List ℕ → List ℕ
put_head p cursor used xs = sets (sets (slice_set xs 2 p.round) 4 (clock_numbers p cursor used)) 15 (head_numbers p)

unfoldable pub put_txs : Txs → Records → List ℕ → List ℕ
put_txs txs records xs = sets (put_log 148 records.log (sets (sets xs 20 txs.starts) 84 txs.rounds)) 213 records.ends

unfoldable pub put_part : PipelinePart → ℕ → ℕ → List ℕ → List ℕ
put_part p cursor used xs = put_packets p.payloads (put_states p.states (put_txs p.txs p.records (put_head p cursor used xs)))

unfoldable pub put_played : Played → List ℕ → List ℕ
put_played t xs = put_part t.part t.cursor t.used (put_network 3 7 277 t.network xs)

-- ---- the entries

-- A room as opened, with no row used and no word drawn.
abbrev pub opened : Played
opened = record { cursor = 0; used = 0; count = 0; network = new_network; part = new_part }

-- The settings that a pipeline reads; the others are 0.
unfoldable pub conf_by : List ℕ → ℕ → ℕ → Float → Float → ℕ → ℕ → ℕ → ℕ → PipelineConf
conf_by links n transactions loss p repeats len interval bound =
    record {
      round =
          record {
            graph = record { n = n; adj = words_at links 0 };
            settings =
                record {
                  loss_rate = loss;
                  abort_probability = p;
                  seed = 0;
                  listen_timeout = 0;
                  flood_repeats = repeats;
                  round_slots = 0;
                  slots_given = false;
                };
            interval = interval;
            length = len;
          };
      transactions = transactions;
      bound = bound;
    }

-- A state in which no round was accepted stays as it is, number for number.
unfoldable pub left_in : Played → List ℕ → List ℕ
left_in t xs = either (t.count == 0) xs (put_played t xs)
