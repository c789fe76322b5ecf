-- RULES 13.3, 13.4 and 13.7, and refusals 2 to 7 of RULES 15: the room that a frame asks for, the calls that it makes,
-- and what comes of them. Assumes nothing: these are definitions.
use Rattle.std.specs.Prelude.{ℕ, ◌+◌, ◌%◌, Bool, true, not, ◌&&◌, Result, Ok, Err, List, eqb, leb}
use Rattle.std.specs.Result.{result_and, result_unwrap_or}
use Rattle.std.specs.Float.{binary64}
use Rattle.std.specs.Float.Ieee.{of_bits}
use Rattle.loops.specs.Pick.{either}
use Rattle.loops.specs.Upto.{upto}
use Rattle.loops.specs.Runs.{runs}
use Rattle.limits.specs.Limits.{positions, last_slot, row_cells}
use Rattle.limits.specs.declared.refusals.Refusal.{Refusal}
use Rattle.limits.specs.declared.refusals.Refusal.TheVariants.{BadPositions}
use Rattle.graph.specs.Links.{topology_of}
use Rattle.graph.specs.declared.network.NetworkGraph.{NetworkGraph}
use Rattle.engines.specs.Network.{new_network}
use Rattle.engines.specs.declared.settings.Settings.{Settings}
use Rattle.pipeline.specs.Round.{new_part}
use Rattle.pipeline.specs.declared.pipeline.PipelinePart.{PipelinePart}
use Rattle.room.specs.Capturing.{new_capture, propose_part, capture_part}
use Rattle.room.specs.Pipelining.{pipeline_part}
use Rattle.room.specs.Kinds.{positions_of}
use Rattle.room.specs.Rooms.{open_test, conf_of}
use Rattle.room.specs.declared.room.RoomKind.{RoomKind}
use Rattle.room.specs.declared.room.RoomKind.TheVariants as kinds
use Rattle.room.specs.declared.room.RoomConf.{RoomConf}
use Rattle.room.specs.declared.room.Asked.{Asked}
use Rattle.room.specs.declared.capture_calls.CapturePart.{CapturePart}
use Rattle.frame.specs.declared.play.Playing.{Playing}
use Rattle.frame.specs.declared.line.Frame.{Frame}

-- ---- what comes of calls, one after the other

-- the value that a call left where it was lent, unless it was refused
abbrev pub left_by : {A : Type 0} → Result (Unit {0}) Refusal → A → Result A Refusal
left_by (Ok u) a = Ok a
left_by (Err k) a = Err k

-- what is made of a value, unless what should give it was refused
abbrev pub unless_refused : {A B : Type 0} → (A → Result B Refusal) → Result A Refusal → Result B Refusal
unless_refused call (Ok s) = call s
unless_refused call (Err k) = Err k

-- ---- the room

-- Loss and abort probability are given by their bits. Each kind of room reads its own of repeats and listen timeout,
-- and only a pipeline room asks whether its slots are given.
unfoldable pub settings_of : Frame → Settings
settings_of f =
    record {
      loss_rate = of_bits binary64 f.loss;
      abort_probability = of_bits binary64 f.abort;
      seed = f.seed;
      listen_timeout = f.span;
      flood_repeats = f.span;
      round_slots = f.slots;
      slots_given = not (eqb f.slots last_slot);
    }

-- A frame has no field for start term, row interval and slot bound: 0, and the last slot twice.
unfoldable pub asked_of : Frame → NetworkGraph → Asked
asked_of f g =
    record {
      kind = f.kind;
      graph = g;
      settings = settings_of f;
      transactions = f.transactions;
      term = 0;
      interval = last_slot;
      bound = last_slot;
    }

-- ---- the calls of a capture room, on the parts that they move: each gets what the one before it handed back, and the
-- lent buffer holds one row

unfoldable pub proposing : RoomConf → ℕ → Playing CapturePart → Result (Playing CapturePart) Refusal
proposing conf v s =
    let p = propose_part conf s.part v in
    result_and p.told (Ok (record { cursor = s.cursor; used = s.used; network = s.network; part = p.part }))

unfoldable pub capturing : List ℕ → RoomConf → Playing CapturePart → Result (Playing CapturePart) Refusal
capturing ws conf s =
    let r = capture_part ws row_cells s.used conf s.network s.part s.cursor in
    result_and r.told (Ok (record { cursor = r.cursor; used = r.used; network = r.network; part = r.part }))

-- what the proposal of turn k leaves: all as it was, if it is refused
abbrev pub behind_proposal : RoomConf → ℕ → Playing CapturePart → Playing CapturePart
behind_proposal conf k s = result_unwrap_or (proposing conf (k % positions_of conf) s) s

-- the positions take turns in proposing, and each proposal gets one round
unfoldable pub capture_turn : List ℕ → RoomConf → ℕ → Playing CapturePart → Result (Playing CapturePart) Refusal
capture_turn ws conf k s = unless_refused (capturing ws conf) (proposing conf (k % positions_of conf) s)

-- as opened
abbrev pub new_play : {P : Type 0} → P → Playing P
new_play part = record { cursor = 0; used = 0; network = new_network; part = part }

-- A capture room takes its proposals.
unfoldable pub play_capture : ℕ → List ℕ → RoomConf → Result (Playing CapturePart) Refusal
play_capture t ws conf = upto t (λ k. unless_refused (capture_turn ws conf k)) (Ok (new_play (new_capture 0)))

-- ---- the rounds of a pipeline room

unfoldable pub pipeline_turn : List ℕ → RoomConf → Playing PipelinePart → Result (Playing PipelinePart) Refusal
pipeline_turn ws conf s =
    let r = pipeline_part ws row_cells s.used conf s.network s.part s.cursor in
    result_and r.told (Ok (record { cursor = r.cursor; used = r.used; network = r.network; part = r.part }))

abbrev pub is_done : Result (Playing PipelinePart) Refusal → Bool
is_done (Ok s) = s.part.stop
is_done (Err k) = true

-- the rounds of a pipeline room up to so many, and none once it has stopped
abbrev pub pipeline_turns : List ℕ → RoomConf → ℕ → Result (Playing PipelinePart) Refusal
pipeline_turns ws conf k = runs is_done (unless_refused (pipeline_turn ws conf)) k (Ok (new_play new_part))

-- A pipeline room runs until it has stopped: the round of number T + 1001 stops it if none before it does, so that T +
-- 1002 rounds are always enough (Stopping.antt).
unfoldable pub play_pipeline : ℕ → List ℕ → RoomConf → Result (Playing PipelinePart) Refusal
play_pipeline t ws conf = pipeline_turns ws conf (t + 1002)

-- ---- what comes of them: the bytes sent over all rounds, or the refusal

abbrev pub capture_end : Playing CapturePart → Result ℕ Refusal
capture_end s = Ok s.network.bytes_sent

abbrev pub pipeline_end : Playing PipelinePart → Result ℕ Refusal
pipeline_end s = Ok s.network.bytes_sent

abbrev pub play_as : RoomKind → ℕ → List ℕ → RoomConf → Result ℕ Refusal
play_as kinds.Pipeline t ws conf = unless_refused pipeline_end (play_pipeline t ws conf)
play_as kinds.Capture t ws conf = unless_refused capture_end (play_capture t ws conf)

abbrev pub play_of : Frame → List ℕ → RoomConf → Result ℕ Refusal
play_of f ws conf = play_as f.kind f.transactions ws conf

-- what the room goes by, if it is accepted
abbrev pub accepted_by : Asked → Result RoomConf Refusal
accepted_by a = result_and (open_test a) (Ok (conf_of a))

-- with the links of a topology
unfoldable pub played_in : Frame → List ℕ → NetworkGraph → Result ℕ Refusal
played_in f ws g = unless_refused (play_of f ws) (accepted_by (asked_of f g))

abbrev pub links_of : Frame → Result NetworkGraph Refusal
links_of f = topology_of f.topology f.positions f.argument

abbrev pub linked_by : Frame → List ℕ → Result NetworkGraph Refusal → Result ℕ Refusal
linked_by f ws b = unless_refused (played_in f ws) b

-- The lowest number wins: 2, of positions outside 2 to 64; 3 (the links); 4, 5 and 7 (the opening); then the calls.
unfoldable pub played_of : Frame → List ℕ → Result ℕ Refusal
played_of f ws = either (leb 2 f.positions && leb f.positions positions) (linked_by f ws (links_of f)) (Err BadPositions)
