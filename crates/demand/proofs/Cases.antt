-- The table of specs/Cases.antt. What speaks of one room is computed over the rules in one go, the rest is by the laws of Resting and Still. Assumes nothing.
use mathlib.Core.Bool.{true, false}
use mathlib.Core.Path.{◌≡◌, refl}
use borrow.Author.Tests.{le-leb, ne_eqb}
use native.Mathlib.Omega.{arith}
use lib.Ieee.{binary64, of_bits, of_fields, eq, lt, le, div, of_int, round, units, odd, span, climb, size}
use Rattle.loops.specs.Upto.{upto}
use Rattle.loops.specs.Downto.{downto}
use Rattle.loops.specs.Runs.{go, tell}
use Rattle.loops.specs.Table.{tabulate, filled}
use Rattle.marks.specs.Marks.{marks, any_of, all_of, count_of, marks_of}
use Rattle.texts.specs.Decimal.{decimal, decimal_f}
use Rattle.texts.specs.Put.{written}
use Rattle.texts.specs.Readers.{list_text, items_text}
use Rattle.graph.specs.Links.{graph_by, next_rule, mesh_rule, ahead_of, link_of, topology_of, inside, rows_of, size_test, position_test, all_inside, graph_test}
use Rattle.graph.specs.Paths.{diameter_of}
use Rattle.packets.specs.Packets.{ce_text, bitmap_text, data_text, limits, pipeline_text, proposal_data}
use Rattle.merges.specs.Merging.{payload_of, filled_of, marked_of, only_of, join_of, join_news, unanimous_of, rank_of, ensure_of, decided_of, acknowledged_of, voiced_of, settled_of, adopted_of, raised_of, own_of, same_term_of, outdated, heard_of, merged_by, merge_of, proposal_of, standing_by, goal_of, can_sleep_of, all_hold, any_holds, network_goal_of, outcome_of}
use Rattle.merges.specs.Votes.{no_of, hash_of, share_of}
use Rattle.merges.proofs.MergeCases.{all_no}
use Rattle.engines.specs.Settings.{loss_accepted, is_lossy}
use Rattle.engines.specs.Marked.{over_marks, with_mark}
use Rattle.engines.specs.Words.{next_of, unit_of, coin_of, lost_of, pick_of, swap_step, shuffled}
use Rattle.engines.specs.Nodes.{ticked, tick_at, ticked_all, listens, floods, sleeps, sets_of, reset_round}
use Rattle.engines.specs.Rows.{highest_progress, row_of, is_due, next_row, rows_refused}
use Rattle.engines.specs.Metrics.{with_frames}
use Rattle.engines.specs.Network.{new_network, ticking, on_air, due_row, slot_row, length_test, late_test}
use Rattle.capture.specs.Plan.{timed_out, tossed1, coins_of, note_at, senders_of, examine1, first_kept, heard_from, capture_of as heardOfPlan, whom, tallied, capture_at, targets_of, captures_of, plan_after, plan_of}
use Rattle.capture.specs.Turns.{started, started_all, next_state, turned, turn_of, turned_all, counted_slot}
use Rattle.capture.specs.Ce.{payload_len, sent_at, sent_of, hearing_of, told_at, told_all}
use Rattle.capture.specs.Capture.{begun, goal_met, acted, finished, slot_of, start_of, after_round, round_test as ceTest, answer_of}
use Rattle.pipeline.specs.Pending.{nack_of, join_marks, common_marks, without_mark, logged_at, logged_of, outcome_at, outcome_of as loggedOutcome, pushed, finalize_tx, unanimous_of as allVoted, open_tx, votes_at, merge_votes, merge_abort, gap_at, gap_of, vote_of, is_judged, judge_at, judged, fast_of, abort_all, own_vote}
use Rattle.pipeline.specs.Pipeline.{data_of, packet_of, same_packet, record_tx, is_fresh, begin_tx, record_due, record_judged, abort_of, known_votes, round_packet, prepare_round, is_new, hear_new, merge_round, record_aborts, take_up, is_answer, answer_nack, process_one, parts_of, process_at, process_all, shorter_at, shortest_log, progress_at, progress_all, stops_at}
use Rattle.flood.specs.Flood.{flood_length, framed, hear_at, hearers_of, send_at, flood_plan, after_flood, after_listen, next_node, turn_at, turned_all as floodTurned, nobody_floods, sent_after, flood_slot, reset_at, reset_all, flood_start, flood_round, flood_rows}
use Rattle.pipeline.specs.Round.{new_part, run_round, rows_of_round, round_test, round_answer, deliver_all, is_covered, cover_at, covered_of, initiator_of, preparing, bytes_of, flood_from, processing, close_round, flood_of, early_test, run_test}
use Rattle.room.specs.Capturing.{propose_test, proposed_in, propose_part, raised, raised_all, network_after, capture_test, captured_by, capture_part}
use Rattle.room.specs.Pipelining.{pipeline_test, pipeline_part}
use Rattle.room.specs.Rooms.{open_test, round_length, new_room, propose_of, capture_of, pipeline_of}
use Rattle.room.specs.Slots.{stages_from, capture_slots, pipeline_slots}
use Rattle.demand.specs.Cases.{MinusZero, One, MarkedCases}
use Rattle.demand.proofs.Resting.{alone_proposes, alone_ends}
use Rattle.demand.proofs.Still.{capture_none, pipeline_none, no_slots}

-- ---- losses

minus_accepted : loss_accepted (of_bits binary64 0x8000_0000_0000_0000) ≡ true
unfolding loss_accepted of_bits of_fields le lt eq
minus_accepted = refl

one_not : loss_accepted (of_bits binary64 0x3FF0_0000_0000_0000) ≡ false
unfolding loss_accepted of_bits of_fields le lt eq
one_not = refl

minus_zero : MinusZero
unfolding open_test
minus_zero a l e p i t = rw (l, e, minus_accepted, p, ne_eqb a.interval 0 (λ x. omega arith), le-leb a.transactions 64 t)

one : One
unfolding open_test
one a l e = rw (l, e, one_not)

-- ---- the table

pub marked_cases : MarkedCases
unfolding upto downto go tell tabulate filled marks any_of all_of count_of marks_of decimal decimal_f written list_text items_text graph_by next_rule mesh_rule ahead_of link_of topology_of inside rows_of ce_text bitmap_text data_text limits no_of hash_of share_of filled_of marked_of only_of join_of join_news unanimous_of rank_of ensure_of decided_of acknowledged_of voiced_of settled_of adopted_of raised_of own_of same_term_of outdated heard_of merged_by merge_of proposal_data proposal_of standing_by goal_of can_sleep_of all_hold any_holds network_goal_of outcome_of loss_accepted is_lossy over_marks with_mark next_of unit_of coin_of lost_of pick_of swap_step shuffled ticked tick_at ticked_all listens floods sleeps sets_of highest_progress row_of is_due next_row timed_out tossed1 coins_of note_at senders_of examine1 first_kept heard_from heardOfPlan whom tallied capture_at targets_of captures_of plan_after plan_of started started_all next_state turned turn_of turned_all counted_slot payload_len on_air sent_at sent_of hearing_of told_at told_all begun goal_met acted finished slot_of slot_row due_row ticking start_of after_round ceTest answer_of open_test position_test round_length new_room propose_test proposed_in propose_part propose_of raised raised_all network_after capture_test captured_by capture_part capture_of stages_from capture_slots of_bits of_fields eq lt le div of_int round units odd span climb size reset_round rows_refused framed hear_at hearers_of send_at flood_plan after_flood after_listen next_node turn_at floodTurned nobody_floods sent_after flood_slot reset_at reset_all flood_start flood_round flood_rows join_marks common_marks without_mark logged_at logged_of outcome_at loggedOutcome pushed finalize_tx allVoted open_tx votes_at merge_votes merge_abort gap_at gap_of nack_of vote_of is_judged judge_at judged fast_of abort_all own_vote data_of packet_of same_packet record_tx is_fresh begin_tx record_due record_judged abort_of known_votes round_packet prepare_round is_new hear_new merge_round record_aborts take_up is_answer answer_nack process_one parts_of process_at process_all shorter_at shortest_log progress_at progress_all stops_at deliver_all is_covered cover_at covered_of initiator_of preparing bytes_of flood_from close_round flood_of run_round new_part new_network processing pipeline_text diameter_of flood_length early_test length_test size_test all_inside graph_test with_frames late_test run_test round_test rows_of_round round_answer pipeline_test pipeline_part pipeline_of pipeline_slots payload_of
marked_cases =
    record {
      capture_line = record {
        line = refl;
        opens = refl;
        proposes = refl;
        runs = refl;
        first = refl;
        second = refl;
        sent = refl;
        bytes = refl;
        first_after = refl;
        goal = refl;
        raised = refl;
        ends = refl;
        counts = refl;
        outcome = refl;
      };
      deadline_met = record { opens = refl; runs = refl; proposer = refl; hearer = refl; before = refl; outcome = refl };
      empty_recovery = record { opens = refl; runs = refl; empty = refl; timeouts = refl; attempts = refl; success = refl; bytes = refl };
      pipeline_mesh = record {
        mesh = refl;
        opens = refl;
        runs = refl;
        full = refl;
        slots = refl;
        ends = refl;
        counts = refl;
        covered = refl;
        stopped = refl;
        bytes = refl;
      };
      shares = record { no = refl; yes = refl };
      all_no = all_no;
      alone_proposes = alone_proposes;
      alone_ends = alone_ends;
      capture_none = capture_none;
      pipeline_none = record { ticks = no_slots; unmoved = pipeline_none; opens = refl; full = refl; accepted = refl };
      empty_heard = record { packet = λ nay n v l p. refl; text = λ nay n v l s. refl };
      minus_zero = minus_zero;
      one = one;
    }
