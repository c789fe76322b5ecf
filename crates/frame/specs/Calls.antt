-- RULES 11.11. A frame plays on the parts of a room. What it leaves of them is what a list of the room's own calls
-- leaves of the room as it was opened, so that whatever holds of every list of calls holds of a frame's room. Assumes
-- nothing: it is proved in proofs/Called.antt.
use Rattle.std.specs.Prelude.{Result, Ok, Err, List, ◌≡◌, ◌<◌, ◌+◌, ◌%◌, ℕ, length, replicate}
use Rattle.limits.specs.Limits.{row_cells}
use Rattle.limits.specs.Refusals.{Tested}
use Rattle.limits.specs.declared.refusals.Refusal.{Refusal}
use Rattle.room.specs.Kinds.{positions_of}
use Rattle.room.specs.Rooms.{open_test, conf_of, opened_by, with_capture, with_pipeline, propose_of, capture_of, pipeline_of}
use Rattle.graph.specs.declared.network.NetworkGraph.{NetworkGraph}
use Rattle.pipeline.specs.declared.pipeline.PipelinePart.{PipelinePart}
use Rattle.room.specs.declared.room.Room.{Room}
use Rattle.room.specs.declared.room.RoomConf.{RoomConf}
use Rattle.room.specs.declared.capture_calls.CapturePart.{CapturePart}
use Rattle.demand.specs.Calls.{Call, Propose, CaptureRound, PipelineRound, Read, handed, ByCalls}
use Rattle.frame.specs.Play.{asked_of, proposing, behind_proposal, capture_turn, play_capture, pipeline_turn, pipeline_turns}
use Rattle.frame.specs.declared.line.Frame.{Frame}
use Rattle.frame.specs.declared.play.Playing.{Playing}

-- ---- the call at which a turn ends: its last, or the one that is refused

-- What a room answers to a call: whether it is refused, and why. (A reading moves nothing, and no turn makes one.)
unfoldable pub told_of : Call → Room → Tested
told_of (Propose v) r = (propose_of r v).told
told_of (CaptureRound ws cursor rows used) r = (capture_of ws (length rows) used r cursor).told
told_of (PipelineRound ws cursor rows used) r = (pipeline_of ws (length rows) used r cursor).told
told_of (Read q) r = Ok tt

-- the state in which the call is made, and the call
pub record LastCall (S : Type 0) : Type 0 where
  pub at : S
  pub call : Call

-- A capture turn ends at its round, made in what the proposal left; if the proposal is refused, at that. The lent
-- buffer holds one row.
abbrev pub round_or_proposal : List ℕ → ℕ → Result (Playing CapturePart) Refusal → Call
round_or_proposal ws v (Ok s) = CaptureRound ws s.cursor (replicate row_cells 0) s.used
round_or_proposal ws v (Err k) = Propose v

abbrev pub capture_last : List ℕ → RoomConf → ℕ → Playing CapturePart → LastCall (Playing CapturePart)
capture_last ws conf k s =
    let v = k % positions_of conf in
    record { at = behind_proposal conf k s; call = round_or_proposal ws v (proposing conf v s) }

-- A pipeline turn is one round.
abbrev pub pipeline_last : List ℕ → ℕ → Playing PipelinePart → LastCall (Playing PipelinePart)
pipeline_last ws k s = record { at = s; call = PipelineRound ws s.cursor (replicate row_cells 0) s.used }

-- It is refused: calls made the room in which it is made, that room answers so, and is left as it was.
pub record RefusedCall {S : Type 0} (r : Room) (made : S → Room) (last : LastCall S) (k : Refusal) : Type 0 where
  pub by_calls : ByCalls r (made last.at)
  pub told : told_of last.call (made last.at) ≡ Err k
  pub left : handed last.call (made last.at) ≡ made last.at

-- ---- turns

-- A turn that is refused. It is one of the n turns, those before it left its state, and calls made that of room r. The
-- call at which it ended is refused so: calls made the room of that call too.
pub record RefusedTurn {S : Type 0} (r : Room) (made : S → Room) (turn : ℕ → S → Result S Refusal) (last : ℕ → S → LastCall S) (left : ℕ → Result S Refusal) (n : ℕ) (k : Refusal) : Type 0 where
  pub number : ℕ
  pub among : number < n
  pub state : S
  pub before : left number ≡ Ok state
  pub by_calls : ByCalls r (made state)
  pub refused : turn number state ≡ Err k
  pub call : RefusedCall r made (last number state) k

-- from room r to what is made of the state that n turns leave, or to the turn that is refused
abbrev pub LeadsTo : {S : Type 0} → Room → (S → Room) → (ℕ → S → Result S Refusal) → (ℕ → S → LastCall S) → (ℕ → Result S Refusal) → ℕ → Result S Refusal → Type 0
LeadsTo r made turn last left n (Ok s) = ByCalls r (made s)
LeadsTo r made turn last left n (Err k) = RefusedTurn r made turn last left n k

abbrev pub Leads : {S : Type 0} → Room → (S → Room) → (ℕ → S → Result S Refusal) → (ℕ → S → LastCall S) → (ℕ → Result S Refusal) → ℕ → Type 0
Leads r made turn last left n = LeadsTo r made turn last left n (left n)

-- For every frame whose room is accepted, with any links and words. (Without that nothing is played.)
pub record PlayedByCalls : Type 0 where
  pub capture : (f : Frame) (g : NetworkGraph) (ws : List ℕ) → open_test (asked_of f g) ≡ Ok tt
      → let r = opened_by (asked_of f g) in
      let conf = conf_of (asked_of f g) in
      Leads r (λ s. with_capture r s.network s.part) (capture_turn ws conf) (capture_last ws conf) (λ k. play_capture k ws conf) f.transactions
  pub pipeline : (f : Frame) (g : NetworkGraph) (ws : List ℕ) → open_test (asked_of f g) ≡ Ok tt
      → let r = opened_by (asked_of f g) in
      let conf = conf_of (asked_of f g) in
      Leads r (λ s. with_pipeline r s.network s.part) (λ k. pipeline_turn ws conf) (pipeline_last ws) (λ k. pipeline_turns ws conf k) (f.transactions + 1002)
