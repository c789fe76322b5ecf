-- RULES 12. The readings of a room as one list: one for each function of src/readings.rt that is open to others, under
-- its name and with its arguments, and its answer, by the rule that the function's contract cites. A reading changes
-- no room. Assumes nothing: these are definitions.
use Rattle.std.specs.Prelude.{ℕ, List, Option, Result, Float}
use Rattle.limits.specs.declared.refusals.Refusal.{Refusal}
use Rattle.merges.specs.declared.merging.ProposalOutcome.{ProposalOutcome}
use Rattle.engines.specs.Metrics.{link_pdr_of, flood_coverage_of}
use Rattle.engines.specs.declared.metrics.MetricsCollector.{MetricsCollector}
use Rattle.engines.specs.declared.node.Node.{Node}
use Rattle.engines.specs.declared.settings.Settings.{Settings}
use Rattle.pipeline.specs.declared.two_pc_pipeline.LogEntry.{LogEntry}
use Rattle.room.specs.declared.room.Room.{Room}
use Rattle.room.specs.declared.room.RoomKind.{RoomKind}
use Rattle.readings.specs.declared.readings.PendingReading.{PendingReading}
use Rattle.readings.specs.declared.readings.RecordReading.{RecordReading}
use Rattle.readings.specs.Readings.{term_of, round_of, stopped_of, initiator_now, outcome_read, node_of, log_len_of, log_entry_of, pending_of, record_of, text_of, text_left}

pub data Reading : Type 0 where
  kind num_nodes settings slot next_row bytes_sent metrics link_pdr flood_coverage : Reading
  term round stopped initiator proposal_outcome : Reading
  node : (position : ℕ) → Reading
  packet_text : (position : ℕ) (out : List ℕ) → Reading
  log_len : (position : ℕ) → Reading
  log_entry : (position place : ℕ) → Reading
  pending : (position transaction : ℕ) → Reading
  «record» : (place : ℕ) → Reading

-- A value, or the refusal in its place. A text, of which the length is answered, also leaves something in the buffer
-- that was lent for it.
pub data Answer : Type 0 where
  a_kind : RoomKind → Answer
  the_settings : Settings → Answer
  a_number : ℕ → Answer
  the_metrics : MetricsCollector → Answer
  a_ratio : Option Float → Answer
  maybe_number : Result ℕ Refusal → Answer
  an_outcome : Result ProposalOutcome Refusal → Answer
  a_node : Result Node Refusal → Answer
  a_text : Result ℕ Refusal → (left : List ℕ) → Answer
  an_entry : Result (Option LogEntry) Refusal → Answer
  a_pending : Result PendingReading Refusal → Answer
  a_record : Result RecordReading Refusal → Answer

unfoldable pub answer_of : Reading → Room → Answer
answer_of kind r = a_kind r.conf.kind
answer_of num_nodes r = a_number r.conf.round.graph.n
answer_of settings r = the_settings r.conf.round.settings
answer_of slot r = a_number r.network.slot
answer_of next_row r = a_number r.network.next_row
answer_of bytes_sent r = a_number r.network.bytes_sent
answer_of metrics r = the_metrics r.network.metrics
answer_of link_pdr r = a_ratio (link_pdr_of r.network.metrics)
answer_of flood_coverage r = a_ratio (flood_coverage_of r.network.metrics)
answer_of term r = maybe_number (term_of r)
answer_of round r = maybe_number (round_of r)
answer_of stopped r = maybe_number (stopped_of r)
answer_of initiator r = maybe_number (initiator_now r)
answer_of proposal_outcome r = an_outcome (outcome_read r)
answer_of (node v) r = a_node (node_of r v)
answer_of (packet_text v out) r = a_text (text_of r v out) (text_left r v out)
answer_of (log_len v) r = maybe_number (log_len_of r v)
answer_of (log_entry v k) r = an_entry (log_entry_of r v k)
answer_of (pending v t) r = a_pending (pending_of r v t)
answer_of («record» k) r = a_record (record_of r k)
