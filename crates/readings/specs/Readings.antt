-- The readings of a room, by RULES 12: what each gives, or its refusal: where there is no such position (2, 8), the
-- room is of the other kind (11), nobody has proposed (12, the initiator), or a text cannot be written (9, 10, as the
-- writer of packets says). Assumes nothing: these are definitions.
use Rattle.std.specs.Prelude.{ℕ, ◌%◌, Bool, ◌&&◌, List, Option, Some, None, Result, Ok, Err, ltb, get_or}
use Rattle.std.specs.Option.{unwrap_or}
use Rattle.std.specs.Result.{result_and}
use mir.Val.{bool_byte}
use Rattle.loops.specs.Pick.{either}
use Rattle.marks.specs.Marks.{has}
use Rattle.graph.specs.Links.{size_test, position_test}
use Rattle.packets.specs.Packets.{ce_text, ce_within, pipeline_text, pipeline_within}
use Rattle.packets.specs.Writing.{wrote_of, left_of}
use Rattle.merges.specs.Merging.{no_payload, outcome_of}
use Rattle.packets.specs.declared.CeTwoPcPacket.{CeTwoPcPacket}
use Rattle.merges.specs.declared.merging.Held.{Held}
use Rattle.merges.specs.declared.merging.Held.TheVariants.{Empty, Unreadable, Packet}
use Rattle.merges.specs.declared.merging.Payload.{Payload}
use Rattle.merges.specs.declared.merging.ProposalOutcome.{ProposalOutcome}
use Rattle.limits.specs.Refusals.{Tested, holds_or, after}
use Rattle.limits.specs.declared.refusals.Refusal.{Refusal}
use Rattle.limits.specs.declared.refusals.Refusal.TheVariants.{NoProposal}
use Rattle.engines.specs.Nodes.{no_node}
use Rattle.engines.specs.declared.node.Node.{Node}
use Rattle.pipeline.specs.Pending.{no_entry}
use Rattle.pipeline.specs.Pipeline.{no_state, packet_of, data_of}
use Rattle.pipeline.specs.Round.{no_packet}
use Rattle.pipeline.specs.declared.two_pc_pipeline.RoundPacket.{RoundPacket}
use Rattle.pipeline.specs.declared.two_pc_pipeline.LogEntry.{LogEntry}
use Rattle.pipeline.specs.declared.two_pc_pipeline.TxLog.{TxLog}
use Rattle.pipeline.specs.declared.two_pc_pipeline.NodeTwoPcState.{NodeTwoPcState}
use Rattle.room.specs.declared.room.RoomKind.{RoomKind}
use Rattle.room.specs.declared.room.RoomKind.TheVariants as kinds
use Rattle.room.specs.declared.room.Room.{Room}
use Rattle.pipeline.specs.declared.pipeline.PipelinePart.{PipelinePart}
use Rattle.readings.specs.declared.readings.PendingReading.{PendingReading}
use Rattle.readings.specs.declared.readings.RecordReading.{RecordReading}
use Rattle.room.specs.Kinds.{is_pipeline, capture_only, pipeline_only}
use Rattle.room.specs.Rooms.{size_of}

-- ---- of the room

abbrev pub term_of : Room → Result ℕ Refusal
term_of r = result_and (capture_only r.conf.kind) (Ok r.capture.term)

abbrev pub round_of : Room → Result ℕ Refusal
round_of r = result_and (pipeline_only r.conf.kind) (Ok r.pipeline.round)

abbrev pub stopped_of : Room → Result ℕ Refusal
stopped_of r = result_and (pipeline_only r.conf.kind) (Ok (bool_byte r.pipeline.stop))

-- who proposed last (12: nobody has)
abbrev pub proposer_of : Option ℕ → Result ℕ Refusal
proposer_of None = Err NoProposal
proposer_of (Some v) = Ok v

-- who floods first: in a capture room who proposed last, in a pipeline room the positions take turns
unfoldable pub initiator_now : Room → Result ℕ Refusal
initiator_now r =
    result_and (size_test (size_of r))
    (either (is_pipeline r.conf.kind) (Ok (r.pipeline.round % size_of r)) (proposer_of r.capture.initiator))

-- Aborted if anybody holds it, Committed if everybody does, and else TimedOut.
abbrev pub outcome_read : Room → Result ProposalOutcome Refusal
outcome_read r =
    result_and (size_test (size_of r))
    (result_and (capture_only r.conf.kind) (Ok (outcome_of (size_of r) r.capture.held)))

-- ---- of a position

abbrev pub node_of : Room → ℕ → Result Node Refusal
node_of r v = result_and (position_test (size_of r) v) (Ok (get_or r.network.nodes v no_node))

-- 2 and 8, then 11
unfoldable pub of_pipeline : Room → ℕ → Tested
of_pipeline r v = result_and (position_test (size_of r) v) (pipeline_only r.conf.kind)

abbrev pub state_at : Room → ℕ → NodeTwoPcState
state_at r v = get_or r.pipeline.states v no_state

abbrev pub log_len_of : Room → ℕ → Result ℕ Refusal
log_len_of r v = result_and (of_pipeline r v) (Ok (state_at r v).log.len)

-- entry k of a log of at most 64
unfoldable pub entry_of : TxLog → ℕ → Option LogEntry
entry_of g k = either (ltb k g.len && ltb k 64) (Some (get_or g.entries k no_entry)) None

abbrev pub log_entry_of : Room → ℕ → ℕ → Result (Option LogEntry) Refusal
log_entry_of r v k = result_and (of_pipeline r v) (Ok (entry_of (state_at r v).log k))

-- What is held of a transaction for a position. `start` is the room's, whether or not the position has heard of it,
-- since it is the same for all who have, as the data is. An abort and votes stay once the transaction is logged, where
-- the Rust drops its entry: `pending` says whether there is one.
unfoldable pub pending_in : PipelinePart → NodeTwoPcState → ℕ → PendingReading
pending_in x s t =
    record {
      pending = has s.pending t;
      abort = has s.aborts t;
      votes = get_or s.votes t 0;
      start = get_or x.txs.rounds t 0;
      «data» = data_of (has s.pending t) t;
    }

-- a transaction is one of 64; of any other nothing is known
abbrev pub pending_of : Room → ℕ → ℕ → Result PendingReading Refusal
pending_of r v t = result_and (of_pipeline r v) (Ok (pending_in r.pipeline (state_at r v) t))

-- the record at place k, in the order in which they were recorded, with the slots at which its transaction was
-- generated and recorded; where there is none, the slots are those of transaction 0
unfoldable pub record_in : PipelinePart → ℕ → RecordReading
record_in x k =
    let e = entry_of x.records.log k in
    let t = (unwrap_or e no_entry).tx in
    record {
      entry = e;
      start = get_or x.txs.starts t 0;
      end = get_or x.records.ends t 0;
    }

abbrev pub record_of : Room → ℕ → Result RecordReading Refusal
record_of r k = result_and (pipeline_only r.conf.kind) (Ok (record_in r.pipeline k))

-- ---- the text of what a position holds, written to the start of a lent buffer: its length

-- of a capture packet; of what is no packet there is none
abbrev pub ce_answer_by : CeTwoPcPacket → List ℕ → Held → Result ℕ Refusal
ce_answer_by p out Empty = Ok 0
ce_answer_by p out Unreadable = Ok 0
ce_answer_by p out Packet = wrote_of (ce_within p) (ce_text p) out 0

abbrev pub ce_answer : Payload → List ℕ → Result ℕ Refusal
ce_answer l out = ce_answer_by l.packet out l.held

abbrev pub ce_left_by : CeTwoPcPacket → List ℕ → Held → List ℕ
ce_left_by p out Empty = out
ce_left_by p out Unreadable = out
ce_left_by p out Packet = left_of (ce_within p) (ce_text p) out 0

abbrev pub ce_left : Payload → List ℕ → List ℕ
ce_left l out = ce_left_by l.packet out l.held

-- of a round's packet, by the packet that it stands for
unfoldable pub pipe_answer_of : ℕ → Bool → RoundPacket → List ℕ → Result ℕ Refusal
pipe_answer_of n holds q out =
    either holds (wrote_of (pipeline_within (packet_of n q)) (pipeline_text (packet_of n q)) out 0) (Ok 0)

unfoldable pub pipe_left : ℕ → Bool → RoundPacket → List ℕ → List ℕ
pipe_left n holds q out = either holds (left_of (pipeline_within (packet_of n q)) (pipeline_text (packet_of n q)) out 0) out

abbrev pub text_by : Room → ℕ → List ℕ → RoomKind → Result ℕ Refusal
text_by r v out kinds.Pipeline = pipe_answer_of (size_of r) (has r.pipeline.holding v) (get_or r.pipeline.payloads v no_packet) out
text_by r v out kinds.Capture = ce_answer (get_or r.capture.held v no_payload) out

abbrev pub text_of : Room → ℕ → List ℕ → Result ℕ Refusal
text_of r v out = result_and (position_test (size_of r) v) (text_by r v out r.conf.kind)

abbrev pub left_by : Room → ℕ → List ℕ → RoomKind → List ℕ
left_by r v out kinds.Pipeline = pipe_left (size_of r) (has r.pipeline.holding v) (get_or r.pipeline.payloads v no_packet) out
left_by r v out kinds.Capture = ce_left (get_or r.capture.held v no_payload) out

abbrev pub text_left : Room → ℕ → List ℕ → List ℕ
text_left r v out = after (position_test (size_of r) v) (λ _. left_by r v out r.conf.kind) out
