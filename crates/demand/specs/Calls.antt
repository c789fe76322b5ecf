-- A room's calls as a list, by RULES 11.8 and 11.4: what each hands back, the slots that it ticks, and every moment on
-- the way. Assumes nothing: these are definitions.
use Rattle.std.specs.Prelude.{ℕ, ◌+◌, List, [], ◌∷◌, ◌++◌, ◌≡◌, is_ok, length}
use Rattle.loops.specs.Pick.{either}
use Rattle.room.specs.declared.room.Room.{Room}
use Rattle.room.specs.Rooms.{propose_of, capture_of, pipeline_of}
use Rattle.room.specs.Slots.{capture_slots, pipeline_slots}
use Rattle.readings.specs.Calls.{Reading}

-- A call and its arguments: words and cursor, the buffer of rows and how many of it are used; a reading is any of
-- those of readings specs/Calls, whose answers stand there. These are all the calls that a room has.
pub data Call : Type 0 where
  Propose : (position : ℕ) → Call
  CaptureRound : (words : List ℕ) (cursor : ℕ) (rows : List ℕ) (used : ℕ) → Call
  PipelineRound : (words : List ℕ) (cursor : ℕ) (rows : List ℕ) (used : ℕ) → Call
  Read : Reading → Call

-- the room that a call hands back: the same where it is refused, and where it only reads
unfoldable pub handed : Call → Room → Room
handed (Propose v) r = (propose_of r v).room
handed (CaptureRound ws cursor rows used) r = (capture_of ws (length rows) used r cursor).room
handed (PipelineRound ws cursor rows used) r = (pipeline_of ws (length rows) used r cursor).room
handed (Read q) r = r

-- the rooms after each slot that a call ticks: none where it is refused
unfoldable pub ticks : Call → Room → List Room
ticks (Propose v) r = []
ticks (CaptureRound ws cursor rows used) r = either (is_ok (capture_of ws (length rows) used r cursor).told) (capture_slots ws cursor r) []
ticks (PipelineRound ws cursor rows used) r = either (is_ok (pipeline_of ws (length rows) used r cursor).told) (pipeline_slots ws cursor r) []
ticks (Read q) r = []

-- the room behind a list of calls, each made on what the call before it left
unfoldable pub after : List Call → Room → Room
after [] r = r
after (c ∷ cs) r = after cs (handed c r)

-- the slots that the accepted rounds of a list tick
unfoldable pub elapsed : List Call → Room → ℕ
elapsed [] r = 0
elapsed (c ∷ cs) r = length (ticks c r) + elapsed cs (handed c r)

-- the start, the room after each slot of a round, and the room after each call
unfoldable pub moments : List Call → Room → List Room
moments [] r = r ∷ []
moments (c ∷ cs) r = r ∷ (ticks c r ++ moments cs (handed c r))

-- some list of calls leads from room r to room q
pub record ByCalls (r q : Room) : Type 0 where
  pub calls : List Call
  pub same : after calls r ≡ q
