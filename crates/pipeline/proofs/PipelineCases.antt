-- The pipeline cases of RULES 9.7, 10.4 and 10.12, computed over the rules. Assumes nothing.
use Rattle.std.proofs.Common.{◌≡◌, ℕ, ◌+◌, true, false, List, [], ◌∷◌, get_or, replicate, refl}
use lib.Ieee.{binary64, of_bits, of_fields, eq, lt, div, of_int, round, units, odd, span, climb, size}
use Rattle.loops.specs.Upto.{upto}
use Rattle.loops.specs.Downto.{downto}
use Rattle.loops.specs.Runs.{go}
use Rattle.marks.specs.Marks.{marks, all_of, count_of, marks_of}
use Rattle.packets.specs.Packets.{pipeline_text, bitmap_text, data_text, limits}
use Rattle.texts.specs.Decimal.{decimal, decimal_f}
use Rattle.texts.specs.Readers.{list_text, items_text}
use Rattle.engines.specs.Nodes.{no_node, reset_round, ticked, tick_at, ticked_all, listens, floods, sleeps, sets_of}
use Rattle.pipeline.specs.Pending.{no_entry, nack_of, join_marks, common_marks, without_mark, logged_at, logged_of, outcome_at, outcome_of, pushed, finalize_tx, unanimous_of, open_tx, votes_at, merge_votes, merge_abort, gap_at, gap_of, vote_of, is_judged, judge_at, judged, fast_of, abort_all, own_vote}
use Rattle.pipeline.specs.Pipeline.{no_state, data_of, packet_of, same_packet, record_tx, is_fresh, begin_tx, record_due, record_judged, abort_of, known_votes, round_packet, prepare_round, is_new, hear_new, merge_round, record_aborts, take_up, is_answer, answer_nack, process_one, parts_of, process_at, process_all, shorter_at, shortest_log, progress_at, progress_all, stops_at}
use Rattle.pipeline.specs.Round.{new_state, new_part, start_draw, run_round, deliver_all, is_covered, cover_at, covered_of, initiator_of, preparing, bytes_of, flood_from, processing, close_round, flood_of}
use Rattle.engines.specs.Metrics.{with_frames}
use Rattle.engines.specs.Network.{new_network, on_air}
use Rattle.engines.specs.Rows.{is_due, next_row, rows_refused}
use Rattle.engines.specs.Words.{next_of, unit_of, lost_of}
use Rattle.engines.specs.Marked.{over_marks, with_mark}
use Rattle.flood.specs.Flood.{framed, hear_at, hearers_of, send_at, flood_plan, after_flood, after_listen, next_node, turn_at, turned_all, nobody_floods, sent_after, flood_slot, reset_at, reset_all, flood_start, flood_round}
use Rattle.engines.specs.declared.node.Node.{Node}
use Rattle.engines.specs.declared.node.NodeState.TheVariants.{Flood, Sleep}
use Rattle.engines.specs.declared.settings.Settings.{Settings}
use Rattle.pipeline.specs.declared.two_pc_pipeline.TxLog.{TxLog}
use Rattle.pipeline.specs.declared.two_pc_pipeline.NodeTwoPcState.{NodeTwoPcState}
use Rattle.pipeline.specs.declared.two_pc_pipeline.RoundPacket.{RoundPacket}
use Rattle.packets.specs.declared.TwoPcPhase.TheVariants.{Prepare}
use Rattle.pipeline.specs.declared.pipeline.PipelineConf.{PipelineConf}
use Rattle.pipeline.specs.declared.pipeline.RoundRun.{RoundRun}

-- no loss, abort probability 0, one repeat
abbrev pub plain : Settings
plain =
    record {
      loss_rate = of_bits binary64 0;
      abort_probability = of_bits binary64 0;
      seed = 0;
      listen_timeout = 0;
      flood_repeats = 1;
      round_slots = 0;
      slots_given = false;
    }

-- one repeat, abort probability 0, and a loss of 1/2
abbrev pub lossy : Settings
lossy =
    record {
      loss_rate = of_bits binary64 0x3FE0_0000_0000_0000;
      abort_probability = of_bits binary64 0;
      seed = 0;
      listen_timeout = 0;
      flood_repeats = 1;
      round_slots = 0;
      slots_given = false;
    }

-- so many positions and transactions, and a full length; the first row only, and no bound that matters
abbrev pub in_room : ℕ → List ℕ → Settings → ℕ → ℕ → PipelineConf
in_room n links settings transactions length =
    record {
      round = record { graph = record { n = n; adj = links }; settings = settings; interval = 4294967295; length = length };
      transactions = transactions;
      bound = 4294967295;
    }

-- Mesh of 2, T = 0, repeats 1: the full length is 3.
abbrev pub mesh2 : PipelineConf
mesh2 = in_room 2 (2 ∷ 1 ∷ replicate 62 0) plain 0 3

module _ (x : RoundRun) where
  abbrev pub node : ℕ → Node
  node i = get_or x.network.nodes i no_node

  -- slot, listen, flood and sleep counts of the first two positions together, covered, bytes sent, round
  abbrev pub shown : List ℕ
  shown =
      x.network.slot
      ∷ ((node 0).slots_listen + (node 1).slots_listen)
      ∷ ((node 0).slots_flood + (node 1).slots_flood)
      ∷ ((node 0).slots_sleep + (node 1).slots_sleep)
      ∷ x.network.metrics.flood_nodes_covered
      ∷ x.network.bytes_sent
      ∷ x.part.round
      ∷ []

-- Two positions that hear each other, nothing to agree on: each sends the 176 bytes once, behind a header of 11, and round 0 stops the room
-- after its second slot.
pub mesh_of_two : (shown (run_round [] mesh2 new_network new_part (start_draw 0)) ≡ 2 ∷ 1 ∷ 2 ∷ 1 ∷ 2 ∷ 374 ∷ 0 ∷ []) × ((run_round [] mesh2 new_network new_part (start_draw 0)).part.stop ≡ true)
unfolding reset_round ticked tick_at ticked_all listens floods sleeps sets_of is_due next_row rows_refused next_of unit_of lost_of over_marks with_mark framed hear_at hearers_of send_at flood_plan after_flood after_listen next_node turn_at turned_all nobody_floods on_air sent_after with_frames flood_slot reset_at reset_all flood_start flood_round join_marks common_marks without_mark logged_at logged_of outcome_at outcome_of pushed finalize_tx unanimous_of open_tx votes_at merge_votes merge_abort gap_at gap_of nack_of vote_of is_judged judge_at judged fast_of abort_all own_vote data_of packet_of same_packet record_tx is_fresh begin_tx record_due record_judged abort_of known_votes round_packet prepare_round is_new hear_new merge_round record_aborts take_up is_answer answer_nack process_one parts_of process_at process_all shorter_at shortest_log progress_at progress_all stops_at deliver_all is_covered cover_at covered_of initiator_of preparing bytes_of flood_from processing close_round flood_of run_round new_part new_network upto downto go marks all_of count_of marks_of pipeline_text bitmap_text data_text limits decimal decimal_f list_text items_text eq lt div of_int round units odd span climb size of_bits of_fields
mesh_of_two = (refl, refl)

-- Three positions in a line, and a round cut off after its first slot: the one in the middle has just begun to flood,
-- so it neither holds the packet nor knows of the transaction.
abbrev pub line3 : PipelineConf
line3 = in_room 3 (2 ∷ 5 ∷ 2 ∷ replicate 61 0) plain 1 1

abbrev pub short_round : RoundRun
short_round = run_round (18446744073709551615 ∷ []) line3 new_network new_part (start_draw 0)

pub line_of_three : ((node short_round 0).state ≡ Sleep) × ((node short_round 1).state ≡ Flood) × (short_round.part.holding ≡ 1) × ((get_or short_round.part.states 0 no_state).pending ≡ 1) × ((get_or short_round.part.states 1 no_state).pending ≡ 0)
unfolding reset_round ticked tick_at ticked_all listens floods sleeps sets_of is_due next_row rows_refused next_of unit_of lost_of over_marks with_mark framed hear_at hearers_of send_at flood_plan after_flood after_listen next_node turn_at turned_all nobody_floods on_air sent_after with_frames flood_slot reset_at reset_all flood_start flood_round join_marks common_marks without_mark logged_at logged_of outcome_at outcome_of pushed finalize_tx unanimous_of open_tx votes_at merge_votes merge_abort gap_at gap_of nack_of vote_of is_judged judge_at judged fast_of abort_all own_vote data_of packet_of same_packet record_tx is_fresh begin_tx record_due record_judged abort_of known_votes round_packet prepare_round is_new hear_new merge_round record_aborts take_up is_answer answer_nack process_one parts_of process_at process_all shorter_at shortest_log progress_at progress_all stops_at deliver_all is_covered cover_at covered_of initiator_of preparing bytes_of flood_from processing close_round flood_of run_round new_part new_network upto downto go marks all_of count_of marks_of pipeline_text bitmap_text data_text limits decimal decimal_f list_text items_text eq lt div of_int round units odd span climb size of_bits of_fields
line_of_three = (refl, refl, refl, refl, refl)

-- Nack 0 means none: whoever lacks transaction 0 asks for nothing, even if it lacks transaction 1 as well; whoever
-- has 0 and lacks 1 asks for 1.
abbrev pub has_first : NodeTwoPcState
has_first = record { log = record { len = 1; entries = replicate 64 no_entry }; pending = 0; aborts = 0; votes = replicate 64 0 }

pub no_nack : (nack_of 2 new_state ≡ 0) × (nack_of 2 has_first ≡ 1)
unfolding nack_of gap_of gap_at join_marks logged_of logged_at with_mark upto marks
no_nack = (refl, refl)

-- Every packet of a pipeline room is in Prepare: it gives no position a phase that could be Committed or Aborted.
pub in_prepare : (n : ℕ) (q : RoundPacket) → (packet_of n q).state ≡ Prepare
unfolding packet_of
in_prepare n q = refl

-- The Rust's answer on a line of 2 with T = 1 and loss 1/2: frames are lost such that position 0 logs Aborted in
-- round 2 and position 1, in the same round, Committed; 954 bytes, all five words drawn, and the room stops.
abbrev pub mixed : PipelineConf
mixed = in_room 2 (2 ∷ 1 ∷ replicate 62 0) lossy 1 3

abbrev pub mixed_words : List ℕ
mixed_words = 18446744073709551615 ∷ 18446744073709551615 ∷ 0 ∷ 0 ∷ 18446744073709551615 ∷ []

abbrev pub again : RoundRun → RoundRun
again x = run_round mixed_words mixed x.network x.part x.draw

abbrev pub mixed_end : RoundRun
mixed_end = again (again (run_round mixed_words mixed new_network new_part (start_draw 0)))

abbrev pub log_at : ℕ → TxLog
log_at i = (get_or mixed_end.part.states i no_state).log

pub opposite_outcomes : (mixed_end.network.bytes_sent ≡ 954) × (mixed_end.part.stop ≡ true) × (mixed_end.draw.at ≡ 5) × (mixed_end.draw.short ≡ false) × ((log_at 0).len ≡ 1) × ((get_or (log_at 0).entries 0 no_entry).committed ≡ false) × ((log_at 1).len ≡ 1) × ((get_or (log_at 1).entries 0 no_entry).committed ≡ true)
unfolding reset_round ticked tick_at ticked_all listens floods sleeps sets_of is_due next_row rows_refused next_of unit_of lost_of over_marks with_mark framed hear_at hearers_of send_at flood_plan after_flood after_listen next_node turn_at turned_all nobody_floods on_air sent_after with_frames flood_slot reset_at reset_all flood_start flood_round join_marks common_marks without_mark logged_at logged_of outcome_at outcome_of pushed finalize_tx unanimous_of open_tx votes_at merge_votes merge_abort gap_at gap_of nack_of vote_of is_judged judge_at judged fast_of abort_all own_vote data_of packet_of same_packet record_tx is_fresh begin_tx record_due record_judged abort_of known_votes round_packet prepare_round is_new hear_new merge_round record_aborts take_up is_answer answer_nack process_one parts_of process_at process_all shorter_at shortest_log progress_at progress_all stops_at deliver_all is_covered cover_at covered_of initiator_of preparing bytes_of flood_from processing close_round flood_of run_round new_part new_network upto downto go marks all_of count_of marks_of pipeline_text bitmap_text data_text limits decimal decimal_f list_text items_text eq lt div of_int round units odd span climb size of_bits of_fields
opposite_outcomes = (refl, refl, refl, refl, refl, refl, refl, refl)
