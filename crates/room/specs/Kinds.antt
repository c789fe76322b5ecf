-- RULES 11.1, and refusal 11 of RULES 15. The two kinds of room, and what is fixed when a room is opened. Assumes
-- nothing.
use Rattle.std.specs.Prelude.{ℕ, Bool, true, false, Ok, Err, eqb}
use Rattle.loops.specs.Pick.{either}
use Rattle.limits.specs.Refusals.{Tested}
use Rattle.limits.specs.declared.refusals.Refusal.TheVariants.{OtherKind}
use Rattle.room.specs.declared.room.RoomKind.{RoomKind}
use Rattle.room.specs.declared.room.RoomKind.TheVariants as kinds
use Rattle.room.specs.declared.room.RoomConf.{RoomConf}

abbrev pub is_pipeline : RoomKind → Bool
is_pipeline kinds.Pipeline = true
is_pipeline kinds.Capture = false

abbrev pub positions_of : RoomConf → ℕ
positions_of c = c.round.graph.n

-- the numbers of the kinds, for C and in a frame; every other number is a capture room
abbrev pub kind_number : RoomKind → ℕ
kind_number kinds.Pipeline = 1
kind_number kinds.Capture = 2

abbrev pub kind_numbered : ℕ → RoomKind
kind_numbered n = either (eqb n 1) kinds.Pipeline kinds.Capture

-- Refusal 11: a call for a room of the wanted kind, on the other.
abbrev pub kind_test : RoomKind → RoomKind → Tested
kind_test kinds.Pipeline kinds.Pipeline = Ok tt
kind_test kinds.Pipeline kinds.Capture = Err OtherKind
kind_test kinds.Capture kinds.Pipeline = Err OtherKind
kind_test kinds.Capture kinds.Capture = Ok tt

abbrev pub capture_only : RoomKind → Tested
capture_only = kind_test kinds.Capture

abbrev pub pipeline_only : RoomKind → Tested
pipeline_only = kind_test kinds.Pipeline
