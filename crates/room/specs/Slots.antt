-- RULES 11.8. The slots of an accepted round as rooms: the room after each of them. In a flood packets and who holds
-- one are still those of the round's start: they are put together at its end, and demand 3 reads none of them. Assumes
-- nothing: these are definitions.
use Rattle.std.specs.Prelude.{ℕ, zero, suc, Bool, true, false, List, [], ◌∷◌, map, slice_set}
use Rattle.capture.specs.Capture.{over, slot_of, start_of}
use Rattle.capture.specs.declared.capture.CeState.{CeState}
use Rattle.flood.specs.Flood.{is_over, flood_slot}
use Rattle.flood.specs.declared.flood.FloodRun.{FloodRun}
use Rattle.pipeline.specs.Round.{initiator_of, preparing, bytes_of, flood_from, start_draw}
use Rattle.pipeline.specs.declared.prepare.Prepared.{Prepared}
use Rattle.pipeline.specs.declared.pipeline.PipelinePart.{PipelinePart}
use Rattle.room.specs.declared.room.Room.{Room}
use Rattle.room.specs.Capturing.{ce_state, with_held, proposer}
use Rattle.room.specs.Pipelining.{pipe_conf}
use Rattle.room.specs.Rooms.{with_capture, with_pipeline}

-- The states after each step of a loop that takes at most k steps, and none once `stop` holds.
module _ {S : Type 0} (stop : S → Bool) (step : S → S) where
  unfoldable pub stages_from : ℕ → Bool → S → List S
  stages_from zero b s = []
  stages_from (suc k) true s = []
  stages_from (suc k) false s = let t = step s in t ∷ stages_from k (stop t) t

  abbrev pub stages : ℕ → S → List S
  stages k s = stages_from k (stop s) s

-- in a capture round: the engine's state after each slot
abbrev pub during : Room → CeState → Room
during r c = with_capture r c.network (with_held r.capture r.capture.raised c.held)

unfoldable pub capture_slots : List ℕ → ℕ → Room → List Room
capture_slots ws cursor r =
    let conf = r.conf.round in
    map (during r) (stages over (slot_of ws conf) conf.length (start_of conf (proposer r.capture) cursor (ce_state r.network r.capture)))

-- in a pipeline round: the flood's state after each slot, with what the initiator knows once it has prepared the round
abbrev pub prepared : PipelinePart → ℕ → Prepared → PipelinePart
prepared x i prep =
    record {
      round = x.round;
      stop = x.stop;
      states = slice_set x.states i prep.state;
      txs = prep.txs;
      piggyback = x.piggyback;
      records = prep.records;
      payloads = x.payloads;
      holding = x.holding;
    }

abbrev pub flooding : Room → ℕ → Prepared → FloodRun → Room
flooding r i prep f = with_pipeline r f.network (prepared r.pipeline i prep)

abbrev pub flood_slots : List ℕ → Room → ℕ → Prepared → List Room
flood_slots ws r i prep =
    let conf = pipe_conf r.conf in
    map (flooding r i prep)
    (stages is_over (flood_slot ws conf.round (bytes_of conf prep.packet)) conf.round.length (flood_from conf r.network i prep.draw))

unfoldable pub pipeline_slots : List ℕ → ℕ → Room → List Room
pipeline_slots ws cursor r =
    let conf = pipe_conf r.conf in
    let i = initiator_of conf r.pipeline in
    flood_slots ws r i (preparing ws conf r.network.slot r.pipeline i (start_draw cursor))
