-- Rooms, by RULES 11.2, 11.3 and 11.4: opening, proposals and rounds. A room's calls move the parts of its kind
-- (specs/Capturing, specs/Pipelining) and leave the rest. Assumes nothing: these are definitions.
use Rattle.std.specs.Prelude.{ℕ, not, ◌&&◌, Result, Ok, List, ◌==◌, leb, slice_index_or}
use Rattle.std.specs.Result.{result_and, result_unwrap_or}
use Rattle.limits.specs.Limits as limit
use Rattle.limits.specs.Refusals.{Tested, holds_or}
use Rattle.limits.specs.declared.refusals.Refusal.{Refusal}
use Rattle.limits.specs.declared.refusals.Refusal.TheVariants.{BadLoss, NoRepeats, NoInterval, ManyTransactions}
use Rattle.graph.specs.Links.{graph_test}
use Rattle.graph.specs.Paths.{length_of}
use Rattle.merges.specs.Merging.{no_payload}
use Rattle.merges.specs.declared.merging.Payload.{Payload}
use Rattle.engines.specs.Settings.{loss_accepted}
use Rattle.engines.specs.Network.{new_network}
use Rattle.engines.specs.declared.settings.Settings.{Settings}
use Rattle.engines.specs.declared.network.Network.{Network}
use Rattle.flood.specs.Flood.{flood_length}
use Rattle.pipeline.specs.Round.{new_part, PipelineAnswer}
use Rattle.pipeline.specs.declared.pipeline.PipelinePart.{PipelinePart}
use Rattle.room.specs.Kinds.{is_pipeline, positions_of}
use Rattle.room.specs.Capturing.{new_capture, propose_part, Captured, capture_part, capture_rows}
use Rattle.room.specs.Pipelining.{pipeline_part, pipeline_rows}
use Rattle.room.specs.declared.capture_calls.CapturePart.{CapturePart}
use Rattle.room.specs.declared.room.Limits.{Limits}
use Rattle.room.specs.declared.room.RoomKind.{RoomKind}
use Rattle.room.specs.declared.room.RoomKind.TheVariants as kinds
use Rattle.room.specs.declared.room.RoomConf.{RoomConf}
use Rattle.room.specs.declared.room.Room.{Room}
use Rattle.room.specs.declared.room.Asked.{Asked}

-- RULES 16: 64 positions, 64 transactions, the last slot, and the lengths of a packet's bitmap and data.
abbrev pub room_limits : Limits
room_limits =
    record {
      positions = limit.positions;
      transactions = limit.transactions;
      last_slot = limit.last_slot;
      bitmap_entries = limit.bitmap_entries;
      data_bytes = limit.data_bytes;
    }

abbrev pub size_of : Room → ℕ
size_of r = positions_of r.conf

-- what position v holds
abbrev pub held_at : Room → ℕ → Payload
held_at r v = slice_index_or r.capture.held v no_payload

-- ---- opening (2 to 7 of RULES 15)

-- 2 and 3 are those of the graph. 4: the loss. 5: a pipeline with no repeats. 6: no interval between rows. 7: too many
-- transactions. The lowest is told.
unfoldable pub open_test : Asked → Tested
open_test a =
    result_and (graph_test a.graph)
    (result_and (holds_or (loss_accepted a.settings.loss_rate) BadLoss)
    (result_and (holds_or (not (is_pipeline a.kind && a.settings.flood_repeats == 0)) NoRepeats)
    (result_and (holds_or (not (a.interval == 0)) NoInterval)
    (holds_or (leb a.transactions limit.transactions) ManyTransactions))))

-- The full length of a round: in a capture room its slots as given; in a pipeline room those of the flood.
unfoldable pub round_length : RoomKind → Settings → ℕ → ℕ
round_length kinds.Pipeline s diameter = flood_length s.slots_given s.round_slots diameter s.flood_repeats
round_length kinds.Capture s diameter = s.round_slots

-- As opened: slot 0, counts 0, logs and packets empty, no row written.
unfoldable pub new_room : RoomConf → ℕ → Room
new_room c term = record { conf = c; network = new_network; capture = new_capture term; pipeline = new_part }

abbrev pub conf_of : Asked → RoomConf
conf_of a =
    record {
      kind = a.kind;
      round = record { graph = a.graph; settings = a.settings; interval = a.interval; length = round_length a.kind a.settings (result_unwrap_or (length_of a.graph) 0) };
      transactions = a.transactions;
      bound = a.bound;
    }

abbrev pub opened_by : Asked → Room
opened_by a = new_room (conf_of a) a.term

-- A refused opening gives no room.
unfoldable pub open_of : Asked → Result Room Refusal
open_of a = result_and (open_test a) (Ok (opened_by a))

-- ---- the calls

-- a room with other parts of its kind
abbrev pub with_capture : Room → Network → CapturePart → Room
with_capture r w t = record { conf = r.conf; network = w; capture = t; pipeline = r.pipeline }

abbrev pub with_pipeline : Room → Network → PipelinePart → Room
with_pipeline r w p = record { conf = r.conf; network = w; capture = r.capture; pipeline = p }

-- what a proposal tells, and the room that it leaves: the old one if refused
pub record Proposal : Type 0 where
  pub told : Tested
  pub room : Room

unfoldable pub propose_of : Room → ℕ → Proposal
propose_of r v =
    let p = propose_part r.conf r.capture v in
    record { told = p.told; room = with_capture r r.network p.part }

-- what a round tells, and what it leaves: the cursor, how many rows are used, and the room; the old ones if refused
pub record RoundAnswer : Type 0 where
  pub told : Tested
  pub cursor : ℕ
  pub used : ℕ
  pub room : Room

-- what a round does to the parts, as an answer of the room
abbrev pub captured : Room → Captured → RoundAnswer
captured r a = record { told = a.told; cursor = a.cursor; used = a.used; room = with_capture r a.network a.part }

unfoldable pub capture_of : List ℕ → ℕ → ℕ → Room → ℕ → RoundAnswer
capture_of ws numbers used r cursor = captured r (capture_part ws numbers used r.conf r.network r.capture cursor)

abbrev pub capture_buffer : List ℕ → List ℕ → ℕ → Room → ℕ → List ℕ
capture_buffer ws rows used r cursor = capture_rows ws rows used r.conf r.network r.capture cursor

abbrev pub ran : Room → PipelineAnswer → RoundAnswer
ran r a = record { told = a.told; cursor = a.cursor; used = a.used; room = with_pipeline r a.network a.part }

unfoldable pub pipeline_of : List ℕ → ℕ → ℕ → Room → ℕ → RoundAnswer
pipeline_of ws numbers used r cursor = ran r (pipeline_part ws numbers used r.conf r.network r.pipeline cursor)

abbrev pub pipeline_buffer : List ℕ → List ℕ → ℕ → Room → ℕ → List ℕ
pipeline_buffer ws rows used r cursor = pipeline_rows ws rows used r.conf r.network r.pipeline cursor
