-- RULES 13.5 and 8.10: the example of a frame line and its listing line, computed over the rules. Assumes nothing.
use Rattle.std.specs.Prelude.{ℕ, List, [], ◌∷◌, ◌≡◌, refl}
use Rattle.std.specs.Float.Ieee.{of_bits, le}
use Rattle.loops.specs.Downto.{downto}
use Rattle.loops.specs.Runs.{go, tell}
use Rattle.loops.specs.Table.{tabulate, filled}
use Rattle.loops.specs.Upto.{upto}
use Rattle.marks.specs.Marks.{marks, all_of, marks_of}
use Rattle.texts.specs.Decimal.{decimal, decimal_f}
use Rattle.texts.specs.Put.{written}
use Rattle.texts.specs.Readers.{list_text}
use Rattle.graph.specs.Links.{graph_by, next_rule, ahead_of, link_of, topology_of, inside, size_test, position_test, all_inside, graph_test}
use Rattle.merges.specs.Merging.{filled_of, marked_of, only_of, unanimous_of, rank_of, ensure_of, decided_of, acknowledged_of, voiced_of, settled_of, adopted_of, raised_of, own_of, same_term_of, outdated, heard_of, merged_by, merge_of, proposal_of, standing_by, goal_of, can_sleep_of, all_hold, network_goal_of}
use Rattle.packets.specs.Packets.{proposal_data, bitmap_text, data_text, ce_text, limits}
use Rattle.merges.specs.Votes.{no_of}
use Rattle.capture.specs.Capture.{begun, goal_met, acted, finished, slot_of, start_of, after_round, round_test, answer_of}
use Rattle.capture.specs.Ce.{payload_len, sent_at, sent_of, hearing_of, told_at, told_all}
use Rattle.engines.specs.Marked.{over_marks, with_mark}
use Rattle.engines.specs.Nodes.{ticked, tick_at, ticked_all, listens, floods, sets_of}
use Rattle.capture.specs.Plan.{timed_out, tossed1, coins_of, note_at, senders_of, examine1, first_kept, heard_from, capture_of, whom, tallied, capture_at, targets_of, captures_of, plan_after, plan_of}
use Rattle.engines.specs.Rows.{is_due, next_row, row_of, rows_refused}
use Rattle.engines.specs.Settings.{loss_accepted, is_lossy}
use Rattle.capture.specs.Turns.{started, started_all, next_state, turned, turn_of, turned_all}
use Rattle.engines.specs.Words.{shuffled}
use Rattle.engines.specs.Network.{new_network, ticking, on_air, due_row, slot_row, length_test, late_test}
use Rattle.room.specs.Capturing.{propose_test, proposed_in, propose_part, network_after, capture_test, captured_by, capture_part}
use Rattle.room.specs.Rooms.{open_test, round_length}
use Rattle.frame.specs.Lines.{number_at, all_hex, name_fits, name_length, has_name, is_frame, fields_of, frame_of}
use Rattle.frame.specs.Listing.{name_of, sent_text, refused_text, text_of, listing_of, outcome_of}
use Rattle.frame.specs.Play.{settings_of, asked_of, proposing, capturing, capture_turn, play_capture, played_in, played_of}

-- a capture room, a line of two positions, one proposal; its name is ALPHA
unfoldable alpha : List ℕ
alpha = 48 ∷ 50 ∷ 48 ∷ 50 ∷ 48 ∷ 50 ∷ 48 ∷ 48 ∷ 48 ∷ 49 ∷ 48 ∷ 48 ∷ 48 ∷ 48 ∷ 48 ∷ 48 ∷ 54 ∷ 52 ∷ 48 ∷ 48 ∷ 48 ∷ 48 ∷ 48 ∷ 48 ∷ 49 ∷ 52 ∷ 48 ∷ 48 ∷ 48 ∷ 48 ∷ 48 ∷ 48 ∷ 48 ∷ 48 ∷ 48 ∷ 48 ∷ 48 ∷ 48 ∷ 48 ∷ 48 ∷ 48 ∷ 48 ∷ 48 ∷ 48 ∷ 48 ∷ 48 ∷ 48 ∷ 48 ∷ 48 ∷ 48 ∷ 48 ∷ 48 ∷ 48 ∷ 48 ∷ 48 ∷ 48 ∷ 48 ∷ 48 ∷ 48 ∷ 48 ∷ 48 ∷ 48 ∷ 48 ∷ 48 ∷ 48 ∷ 48 ∷ 48 ∷ 48 ∷ 48 ∷ 48 ∷ 48 ∷ 48 ∷ 48 ∷ 48 ∷ 48 ∷ 53 ∷ 52 ∷ 49 ∷ 52 ∷ 67 ∷ 53 ∷ 48 ∷ 52 ∷ 56 ∷ 52 ∷ 49 ∷ []

-- ALPHA 194
alpha_listed : listing_of alpha ≡ 65 ∷ 76 ∷ 80 ∷ 72 ∷ 65 ∷ 32 ∷ 49 ∷ 57 ∷ 52 ∷ []
unfolding alpha listing_of text_of frame_of fields_of is_frame all_hex all_of number_at has_name name_length name_fits played_of topology_of played_in asked_of open_test size_test position_test all_inside graph_test graph_by filled tabulate inside marks link_of ahead_of next_rule loss_accepted le of_bits settings_of play_capture upto capture_turn proposing propose_part propose_test new_network capturing Rattle.room.specs.Rooms.capture_of capture_test proposed_in captured_by answer_of round_test start_of round_length after_round go slot_of finished network_goal_of all_hold standing_by begun rank_of proposal_of adopted_of settled_of voiced_of ensure_of no_of acknowledged_of unanimous_of marked_of filled_of acted told_all told_at hearing_of plan_of plan_after captures_of over_marks targets_of sets_of listens ticked_all tick_at started_all ticked started coins_of tossed1 timed_out capture_at turned_all turn_of turned next_state can_sleep_of goal_of whom capture_of heard_from first_kept senders_of floods note_at examine1 is_lossy shuffled downto merge_of merged_by heard_of outdated decided_of only_of with_mark same_term_of own_of raised_of goal_met tallied tell slot_row due_row row_of ticking length_test late_test rows_refused is_due next_row sent_text name_of decimal network_after capture_part sent_of sent_at on_air payload_len limits proposal_data ce_text data_text list_text written bitmap_text marks_of outcome_of
alpha_listed = refl

-- an empty line: refused 1
empty_refused : listing_of [] ≡ 114 ∷ 101 ∷ 102 ∷ 117 ∷ 115 ∷ 101 ∷ 100 ∷ 32 ∷ 49 ∷ []
unfolding listing_of text_of outcome_of frame_of is_frame all_hex all_of refused_text decimal decimal_f
empty_refused = refl
