-- RULES 10.11 and 11.11: how many rounds a pipeline room accepts. Assumes nothing: it is proved in proofs/Rounds.antt.
use Rattle.std.specs.Prelude.{List, [], ◌∷◌, ℕ, ◌+◌, ◌≡◌, ◌≤◌, false, is_ok, length}
use Rattle.loops.specs.Pick.{either}
use Rattle.limits.specs.Limits.{transactions}
use Rattle.graph.specs.Links.{is_size}
use Rattle.room.specs.declared.room.Room.{Room}
use Rattle.room.specs.declared.room.Asked.{Asked}
use Rattle.room.specs.Rooms.{size_of, opened_by, pipeline_of}
use Rattle.demand.specs.Calls.{Call, Propose, CaptureRound, PipelineRound, Read, handed}

-- 1 for a pipeline round that is accepted, 0 for any other call
unfoldable pub round_in : Call → Room → ℕ
round_in (Propose v) r = 0
round_in (CaptureRound ws cursor rows used) r = 0
round_in (PipelineRound ws cursor rows used) r = either (is_ok (pipeline_of ws (length rows) used r cursor).told) 1 0
round_in (Read q) r = 0

-- the pipeline rounds that are accepted in a list of calls
unfoldable pub rounds_in : List Call → Room → ℕ
rounds_in [] r = 0
rounds_in (c ∷ cs) r = round_in c r + rounds_in cs (handed c r)

-- a room of T transactions, 64 or fewer, accepts at most T + 1002, whatever the calls, be its opening accepted or not
abbrev pub FewRounds : Type 0
FewRounds =
    (asked : Asked) → asked.transactions ≤ transactions → (calls : List Call)
    → rounds_in calls (opened_by asked) ≤ asked.transactions + 1002

-- A room whose numbers say no positions, or more than 64, accepts none. (No accepted opening gives such a room.)
abbrev pub NoRounds : Type 0
NoRounds = (r : Room) → is_size (size_of r) ≡ false → (calls : List Call) → rounds_in calls r ≡ 0
