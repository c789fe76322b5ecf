-- RULES 17. pipeline_c's entry plays rounds one after the other on an engine's state, below rooms (`play_rounds`). What
-- it leaves is what a list of a room's own calls leaves: pipeline rounds, each going on where the one before it left
-- off, and none behind one that is refused. Assumes nothing: it is proved in proofs/Rounding.antt. It is so of
-- whatever the entry is handed, since any numbers stand in some `Room`. That room need not be one that an opening and
-- calls lead to: there the entry is more general. It takes a full length that no diameter gives, settings that no
-- opening accepts, and states that no call leaves (`beyond`). With what an accepted opening fixes, and from the state
-- `opened`, it is a room's (`start`), and what holds of every list of calls from an opening holds of it.
use Rattle.std.specs.Prelude.{Bool, not, List, [], ◌∷◌, ◌≡◌, ℕ, zero, suc, ◌<◌, ◌^◌, Ok, is_ok, length}
use Rattle.loops.specs.Pick.{either}
use Rattle.loops.specs.Runs.{runs}
use Rattle.loops.specs.Wrap.{add64}
use Rattle.engines.specs.Network.{new_network}
use Rattle.engines.specs.declared.network.Network.{Network}
use Rattle.pipeline.specs.declared.pipeline.PipelineConf.{PipelineConf}
use Rattle.pipeline_c.specs.Console.{opened}
use Rattle.pipeline_c.specs.Play.{Playing, play_rounds}
use Rattle.pipeline_c.specs.declared.rounds.Played.{Played}
use Rattle.room.specs.Capturing.{new_capture}
use Rattle.room.specs.Pipelining.{pipe_conf}
use Rattle.room.specs.Rooms.{conf_of, open_test, opened_by, RoundAnswer, pipeline_of, pipeline_buffer}
use Rattle.room.specs.declared.capture_calls.CapturePart.{CapturePart}
use Rattle.room.specs.declared.room.Asked.{Asked}
use Rattle.room.specs.declared.room.Room.{Room}
use Rattle.room.specs.declared.room.RoomConf.{RoomConf}
use Rattle.room.specs.declared.room.RoomKind.TheVariants as kinds
use Rattle.demand.specs.Calls.{Call, PipelineRound, after}
use Rattle.demand.specs.Rounds.{rounds_in}

-- ---- rounds of a room, one after the other

-- The buffer of rows, and what the last round answered, the room with it.
pub record Turn : Type 0 where
  pub rows : List ℕ
  pub answer : RoundAnswer

-- the call of the next round, with the cursor and the rows that the last one left
abbrev pub next_call : List ℕ → Turn → Call
next_call ws t = PipelineRound ws t.answer.cursor t.rows t.answer.used

-- what that call of the room answers, and what it leaves of the buffer
unfoldable pub next_turn : List ℕ → Turn → Turn
next_turn ws t =
    let a = t.answer in
    record {
      rows = pipeline_buffer ws t.rows a.used a.room a.cursor;
      answer = pipeline_of ws (length t.rows) a.used a.room a.cursor;
    }

-- the calls of k rounds, none behind one that was refused
unfoldable pub round_calls : List ℕ → ℕ → Turn → List Call
round_calls ws zero t = []
round_calls ws (suc k) t = either (is_ok t.answer.told) (next_call ws t ∷ round_calls ws k (next_turn ws t)) []

abbrev pub is_over : Turn → Bool
is_over t = not (is_ok t.answer.told)

-- what the last of them answers and leaves
unfoldable pub last_turn : List ℕ → ℕ → Turn → Turn
last_turn ws k t = runs is_over (next_turn ws) k t

-- ---- an engine's state in a room

abbrev pub fixed_of : PipelineConf → RoomConf
fixed_of conf =
    record { kind = kinds.Pipeline; round = conf.round; transactions = conf.transactions; bound = conf.bound }

-- a pipeline room that has the entry's network and part; its capture part is any
abbrev pub room_of : PipelineConf → CapturePart → Played → Room
room_of conf c t = record { conf = fixed_of conf; network = t.network; capture = c; pipeline = t.part }

abbrev pub turn_of : PipelineConf → CapturePart → Playing → Turn
turn_of conf c w =
    let t = w.played in
    record {
      rows = w.rows;
      answer = record { told = w.told; cursor = t.cursor; used = t.used; room = room_of conf c t };
    }

-- ---- the law

-- at most k rounds of the entry from state w on, and the calls of as many in a room that has its network and part
pub record RoundsByCalls (ws : List ℕ) (conf : PipelineConf) (c : CapturePart) (k : ℕ) (w : Playing) : Type 0 where
  -- the buffer, the last refusal, the cursor, the rows used, and the room: as the last of the calls leaves them
  pub last : turn_of conf c (play_rounds ws conf k w) ≡ last_turn ws k (turn_of conf c w)
  -- the room: as the list of these calls leaves it
  pub room : after (round_calls ws k (turn_of conf c w)) (room_of conf c w.played)
      ≡ room_of conf c (play_rounds ws conf k w).played
  -- the count: of those that are accepted
  pub count : w.played.count < 2 ^ 64
      → (play_rounds ws conf k w).played.count
      ≡ add64 w.played.count (rounds_in (round_calls ws k (turn_of conf c w)) (room_of conf c w.played))

-- a state whose counts do not add up to its slot
abbrev pub ahead : Network
ahead =
    let w = new_network in
    record { nodes = w.nodes; metrics = w.metrics; slot = 1; next_row = 0; bytes_sent = 0 }

pub record PlayedRounds : Type 0 where
  -- for any words, conf, state and number of rounds
  pub rounds : (ws : List ℕ) (conf : PipelineConf) (c : CapturePart) (k : ℕ) (w : Playing)
      → RoundsByCalls ws conf c k w
  -- the entry's first state is that of a room as opened
  pub start : (a : Asked) → a.kind ≡ kinds.Pipeline → open_test a ≡ Ok tt
      → room_of (pipe_conf (conf_of a)) (new_capture a.term) opened ≡ opened_by a
  -- and there are states that no accepted opening and no calls lead to
  pub beyond : (a : Asked) → a.term < 2 ^ 64 → open_test a ≡ Ok tt → (calls : List Call)
      → (after calls (opened_by a)).network ≡ ahead → ⊥
