-- RULES 10.2, 10.4, 10.10, 10.11 and 7.6, and refusals 2 and 14 to 17 of RULES 15: one pipeline round. Assumes
-- nothing.
use Rattle.std.specs.Prelude.{◌≡◌, ℕ, ◌+◌, ◌*◌, ◌/◌, ◌%◌, ◌^◌, Bool, false, not, ◌&&◌, ◌||◌, None, Ok, is_ok, List, length, replicate, nat_le, nat_lt, slice_index_or, slice_set}
use Rattle.std.proofs.lemmas.List.Edits.{sets}
use mir.Val.{bool_byte}
use Rattle.std.specs.Result.{result_and}
use Rattle.loops.specs.Pick.{either}
use Rattle.loops.specs.Upto.{upto}
use Rattle.marks.specs.Marks.{has}
use Rattle.limits.specs.Limits.{row_cells}
use Rattle.limits.specs.Refusals.{Tested, holds_or}
use Rattle.limits.specs.declared.refusals.Refusal.TheVariants.{Stopped}
use Rattle.graph.specs.Links.{size_test}
use Rattle.packets.specs.Packets.{pipeline_text, pipeline_within}
use Rattle.packets.specs.Writing.{text_len}
use Rattle.engines.specs.Clamp.{at_most64}
use Rattle.engines.specs.Marked.{over_marks}
use Rattle.engines.specs.Nodes.{inc, sets_of}
use Rattle.engines.specs.Network.{with_nodes, length_test, late_test}
use Rattle.flood.specs.Flood.{flood_start, flood_round, flood_rows}
use Rattle.pipeline.specs.Pending.{no_entry, join_marks}
use Rattle.pipeline.specs.declared.process.AllProcessed.{AllProcessed}
use Rattle.pipeline.specs.Pipeline.{packet_of, same_packet, no_state, prepare_round, parts_of, process_all, shortest_log, progress_all, stops_at}
use Rattle.engines.specs.declared.words.Draw.{Draw}
use Rattle.engines.specs.declared.metrics.MetricsCollector.{MetricsCollector}
use Rattle.engines.specs.declared.network.Network.{Network}
use Rattle.flood.specs.declared.flood.FloodRun.{FloodRun}
use Rattle.pipeline.specs.declared.two_pc_pipeline.TxLog.{TxLog}
use Rattle.pipeline.specs.declared.two_pc_pipeline.NodeTwoPcState.{NodeTwoPcState}
use Rattle.pipeline.specs.declared.two_pc_pipeline.RoundPacket.{RoundPacket}
use Rattle.pipeline.specs.declared.prepare.Prepared.{Prepared}
use Rattle.pipeline.specs.declared.process.RoundFacts.{RoundFacts}
use Rattle.pipeline.specs.declared.pipeline.PipelineConf.{PipelineConf}
use Rattle.pipeline.specs.declared.pipeline.PipelinePart.{PipelinePart}
use Rattle.pipeline.specs.declared.pipeline.RoundRun.{RoundRun}

-- ---- who holds what

abbrev pub no_packet : RoundPacket
no_packet = record { tx = 0; bits = 0; abort = false; nack = 0; fresh = false; sender = 0; piggyback = None }

-- ---- a room as opened

abbrev pub new_log : TxLog
new_log = record { len = 0; entries = replicate 64 no_entry }

abbrev pub new_state : NodeTwoPcState
new_state = record { log = new_log; pending = 0; aborts = 0; votes = replicate 64 0 }

-- Logs empty, no transaction generated, and nobody holds a packet.
unfoldable pub new_part : PipelinePart
new_part =
    record {
      round = 0;
      stop = false;
      states = replicate 64 new_state;
      txs = record { counter = 0; starts = replicate 64 0; rounds = replicate 64 0 };
      piggyback = None;
      records = record { log = new_log; ends = replicate 64 0 };
      payloads = replicate 64 no_packet;
      holding = 0;
    }

-- ---- delivery

-- Whoever takes part holds the round's packet from now on.
abbrev pub deliver_at : RoundPacket → ℕ → List RoundPacket → List RoundPacket
deliver_at q i ps = slice_set ps i q

unfoldable pub deliver_all : RoundPacket → ℕ → List RoundPacket → List RoundPacket
deliver_all q parts ps = over_marks parts (deliver_at q) ps

-- Covered is every position that holds the packet, by whichever round it came: the packets say the same. (In a room
-- that is by bytes: proofs/Covering.)
unfoldable pub is_covered : RoundPacket → ℕ → List RoundPacket → ℕ → Bool
is_covered q holding ps i = has holding i && same_packet (slice_index_or ps i no_packet) q

unfoldable pub cover_at : RoundPacket → ℕ → List RoundPacket → ℕ → ℕ → ℕ
cover_at q holding ps i k = either (is_covered q holding ps i) (inc k) k

unfoldable pub covered_of : RoundPacket → ℕ → ℕ → List RoundPacket → ℕ
covered_of q n holding ps = upto (at_most64 n) (cover_at q holding ps) 0

-- ---- the parts of a round

abbrev pub size_of : PipelineConf → ℕ
size_of conf = conf.round.graph.n

-- what a round's steps are told of it
abbrev pub facts_of : PipelineConf → PipelinePart → ℕ → RoundFacts
facts_of conf p slot = record { n = size_of conf; round = p.round; slot = slot }

-- The initiators take turns.
unfoldable pub initiator_of : PipelineConf → PipelinePart → ℕ
initiator_of conf p = p.round % size_of conf

unfoldable pub preparing : List ℕ → PipelineConf → ℕ → PipelinePart → ℕ → Draw → Prepared
preparing ws conf slot p i d =
    prepare_round ws conf.round.settings.abort_probability i (facts_of conf p slot) conf.transactions
    p.txs p.records p.piggyback (slice_index_or p.states i no_state) d

-- every flooder sends the text of the whole packet
unfoldable pub bytes_of : PipelineConf → RoundPacket → ℕ
bytes_of conf q = let full = packet_of (size_of conf) q in text_len (pipeline_within full) (pipeline_text full)

unfoldable pub flood_from : PipelineConf → Network → ℕ → Draw → FloodRun
flood_from conf w i d =
    record {
      network = with_nodes w (flood_start (size_of conf) i conf.round.settings.flood_repeats w.nodes);
      draw = d;
      over = false;
    }

-- Frames were counted slot by slot.
abbrev pub counted_in : MetricsCollector → ℕ → ℕ → ℕ → ℕ → MetricsCollector
counted_in m nacks answers n covered =
    record {
      nacks_sent = (m.nacks_sent + nacks) % 2 ^ 64;
      piggybacks_sent = (m.piggybacks_sent + answers) % 2 ^ 64;
      ce_timeouts = m.ce_timeouts;
      rx_attempts = m.rx_attempts;
      rx_success = m.rx_success;
      flood_rounds = inc m.flood_rounds;
      flood_nodes_total = (m.flood_nodes_total + n) % 2 ^ 64;
      flood_nodes_covered = (m.flood_nodes_covered + covered) % 2 ^ 64;
    }

-- ---- the round as it ends

-- The round number rises by one, but not in the round in which the room stops.
abbrev pub next_round : Bool → ℕ → ℕ
next_round stop r = either stop r (inc r)

abbrev pub stopping : PipelineConf → PipelinePart → Prepared → ℕ → Bool
stopping conf p prep done = stops_at conf.transactions done prep.txs.counter p.round

-- with other positions and other metrics
abbrev pub end_network : PipelineConf → Network → Prepared → ℕ → List RoundPacket → AllProcessed → ℕ → Network
end_network conf w prep holding ps g done =
    record {
      nodes = progress_all (size_of conf) conf.transactions done g.states w.nodes;
      metrics =
          counted_in w.metrics (bool_byte (nat_lt 0 prep.packet.nack)) g.carried.answers (size_of conf)
          (covered_of prep.packet (size_of conf) holding ps);
      slot = w.slot;
      next_row = w.next_row;
      bytes_sent = w.bytes_sent;
    }

abbrev pub end_part : PipelineConf → PipelinePart → Prepared → ℕ → List RoundPacket → AllProcessed → ℕ → PipelinePart
end_part conf p prep holding ps g done =
    record {
      round = next_round (stopping conf p prep done) p.round;
      stop = stopping conf p prep done;
      states = g.states;
      txs = prep.txs;
      piggyback = g.carried.piggyback;
      records = g.carried.records;
      payloads = ps;
      holding = holding;
    }

abbrev pub ended : PipelineConf → PipelinePart → Prepared → FloodRun → ℕ → List RoundPacket → AllProcessed → RoundRun
ended conf p prep f holding ps g =
    let done = shortest_log (size_of conf) g.states in
    record {
      network = end_network conf f.network prep holding ps g done;
      part = end_part conf p prep holding ps g done;
      draw = g.carried.draw;
    }

-- whoever takes part processes the packet; the initiator's own state is as it was prepared
unfoldable pub processing : List ℕ → PipelineConf → PipelinePart → ℕ → Prepared → FloodRun → ℕ → AllProcessed
processing ws conf p i prep f parts =
    process_all ws conf.round.settings.abort_probability (facts_of conf p f.network.slot) prep.txs.rounds
    prep.packet parts
    (record {
      states = slice_set p.states i prep.state;
      carried = record { draw = f.draw; records = prep.records; piggyback = None; answers = 0 };
    })

-- The flood is over: its packet is delivered, and whoever takes part processes it.
abbrev pub handed_on : List ℕ → PipelineConf → PipelinePart → ℕ → Prepared → FloodRun → ℕ → RoundRun
handed_on ws conf p i prep f parts =
    ended conf p prep f (join_marks p.holding parts) (deliver_all prep.packet parts p.payloads)
    (processing ws conf p i prep f parts)

unfoldable pub close_round : List ℕ → PipelineConf → PipelinePart → ℕ → Prepared → FloodRun → RoundRun
close_round ws conf p i prep f =
    handed_on ws conf p i prep f (parts_of (size_of conf) i (sets_of (size_of conf) f.network.nodes).sleeping)

-- ---- the round

unfoldable pub flood_of : List ℕ → PipelineConf → Network → ℕ → Prepared → FloodRun
flood_of ws conf w i prep = flood_round ws conf.round (bytes_of conf prep.packet) (flood_from conf w i prep.draw)

abbrev pub run_from : List ℕ → PipelineConf → Network → PipelinePart → ℕ → Prepared → RoundRun
run_from ws conf w p i prep = close_round ws conf p i prep (flood_of ws conf w i prep)

-- prepare, flood, process
unfoldable pub run_round : List ℕ → PipelineConf → Network → PipelinePart → Draw → RoundRun
run_round ws conf w p d = run_from ws conf w p (initiator_of conf p) (preparing ws conf w.slot p (initiator_of conf p) d)

-- the rows of its flood
abbrev pub rows_from : List ℕ → PipelineConf → Network → ℕ → Prepared → List ℕ
rows_from ws conf w i prep = flood_rows ws conf.round (bytes_of conf prep.packet) (flood_from conf w i prep.draw)

unfoldable pub rows_of_round : List ℕ → PipelineConf → Network → PipelinePart → Draw → List ℕ
rows_of_round ws conf w p d =
    rows_from ws conf w (initiator_of conf p) (preparing ws conf w.slot p (initiator_of conf p) d)

-- how many they are
abbrev pub due_of_round : List ℕ → PipelineConf → Network → PipelinePart → Draw → ℕ
due_of_round ws conf w p d = length (rows_of_round ws conf w p d) / row_cells

-- no rule: what a run without rows must find out
pub record RoundSurveyed (ws : List ℕ) (conf : PipelineConf) (w : Network) (p : PipelinePart) (d : Draw)
    (r : RoundRun) (due : ℕ) : Type 0 where
  pub short : r.draw.short ≡ (run_round ws conf w p d).draw.short
  pub run : r.draw.short ≡ false → r ≡ run_round ws conf w p d
  pub rows : r.draw.short ≡ false → due * row_cells ≡ length (rows_of_round ws conf w p d)

-- ---- refusals

-- 14: the room has stopped, or its slot has reached the bound.
abbrev pub is_done : PipelineConf → ℕ → Bool → Bool
is_done conf slot stop = stop || nat_le conf.bound slot

-- 2: the positions. 15: the full length passes the last slot.
unfoldable pub early_test : PipelineConf → ℕ → Bool → Tested
early_test conf slot stop =
    result_and (size_test (size_of conf))
    (result_and (holds_or (not (is_done conf slot stop)) Stopped) (length_test conf.round slot))

abbrev pub start_draw : ℕ → Draw
start_draw cursor = record { at = cursor; short = false }

-- 16: some draw of the run found no word. 17: its rows do not fit behind those used.
unfoldable pub run_test : List ℕ → ℕ → ℕ → PipelineConf → Network → PipelinePart → ℕ → Tested
run_test ws numbers used conf w p cursor =
    let d = start_draw cursor in
    late_test numbers used (run_round ws conf w p d).draw.short (due_of_round ws conf w p d)

unfoldable pub round_test : List ℕ → ℕ → ℕ → PipelineConf → Network → PipelinePart → ℕ → Tested
round_test ws numbers used conf w p cursor =
    result_and (early_test conf w.slot p.stop) (run_test ws numbers used conf w p cursor)

-- what a round tells, and what it leaves: the cursor, how many rows are used, and the room
pub record PipelineAnswer : Type 0 where
  pub told : Tested
  pub cursor : ℕ
  pub used : ℕ
  pub network : Network
  pub part : PipelinePart

abbrev pub refused_with : Tested → Network → PipelinePart → ℕ → ℕ → PipelineAnswer
refused_with t w p cursor used = record { told = t; cursor = cursor; used = used; network = w; part = p }

abbrev pub accepted_with : ℕ → RoundRun → PipelineAnswer
accepted_with used x = record { told = Ok tt; cursor = x.draw.at; used = used; network = x.network; part = x.part }

-- A refused call leaves the room, the cursor and the number of rows used as they were.
unfoldable pub round_answer : List ℕ → ℕ → ℕ → PipelineConf → Network → PipelinePart → ℕ → PipelineAnswer
round_answer ws numbers used conf w p cursor =
    either (is_ok (round_test ws numbers used conf w p cursor))
    (accepted_with (used + due_of_round ws conf w p (start_draw cursor)) (run_round ws conf w p (start_draw cursor)))
    (refused_with (round_test ws numbers used conf w p cursor) w p cursor used)

-- .. and the buffer too; an accepted one puts its rows behind those used.
unfoldable pub round_buffer : List ℕ → List ℕ → ℕ → PipelineConf → Network → PipelinePart → ℕ → List ℕ
round_buffer ws rows used conf w p cursor =
    either (is_ok (round_test ws (length rows) used conf w p cursor))
    (sets rows (used * row_cells) (rows_of_round ws conf w p (start_draw cursor)))
    rows
