-- RULES 11.5, 11.6, 8.9 and 4.1, in a room: proposals and rounds on the parts that they move, with their refusals.
-- Assumes nothing.
use Rattle.std.specs.Prelude.{ℕ, Bool, true, false, not, ◌&&◌, ◌||◌, Ok, is_ok, None, Some, is_some, List, replicate, ◌==◌, slice_index_or, slice_set}
use Rattle.std.specs.Result.{result_and}
use Rattle.std.specs.Option.{unwrap_or}
use Rattle.loops.specs.Pick.{either}
use Rattle.loops.specs.Upto.{upto}
use Rattle.limits.specs.Limits.{last_term}
use Rattle.limits.specs.Refusals.{Tested, holds_or}
use Rattle.limits.specs.declared.refusals.Refusal.TheVariants.{NoProposal, NoTerm}
use Rattle.graph.specs.Links.{size_test, position_test}
use Rattle.merges.specs.Votes.{no_of}
use Rattle.loops.specs.Wrap.{add64}
use Rattle.merges.specs.Merging.{proposal_of, without}
use Rattle.merges.specs.declared.merging.Held.TheVariants.{Empty, Packet}
use Rattle.merges.specs.declared.merging.Payload.{Payload}
use Rattle.engines.specs.Clamp.{at_most64}
use Rattle.engines.specs.Nodes.{inc, no_node}
use Rattle.engines.specs.Network.{with_nodes, length_test}
use Rattle.engines.specs.declared.node.Node.{Node}
use Rattle.engines.specs.declared.network.Network.{Network}
use Rattle.capture.specs.Capture.{voting_of, CeAnswer, answer_of, buffer_of}
use Rattle.capture.specs.declared.capture.CeState.{CeState}
use Rattle.room.specs.Kinds.{positions_of, capture_only}
use Rattle.room.specs.declared.room.RoomConf.{RoomConf}
use Rattle.room.specs.declared.capture_calls.CapturePart.{CapturePart}

-- the votes of a room: by its seed and abort probability, fixed at the opening
abbrev pub noes_of : RoomConf → ℕ → ℕ → Bool
noes_of c = no_of (voting_of c.round)

-- ---- as opened

-- nothing held
abbrev pub empty_payload : Payload
empty_payload = without Empty

abbrev pub new_capture : ℕ → CapturePart
new_capture term = record { term = term; initiator = None; raised = false; held = replicate 64 empty_payload }

-- who proposed last; 0 while nobody has, when every round is refused
abbrev pub proposer : CapturePart → ℕ
proposer t = unwrap_or t.initiator 0

-- ---- propose (2, 8, 11, 13)

unfoldable pub propose_test : RoomConf → ℕ → ℕ → Tested
propose_test c term v =
    result_and (position_test (positions_of c) v)
    (result_and (capture_only c.kind) (holds_or (not (term == last_term)) NoTerm))

-- The term rises by one, position v holds its proposal and all others nothing. Nothing else changes.
unfoldable pub proposed_in : RoomConf → CapturePart → ℕ → CapturePart
proposed_in c t v =
    record {
      term = add64 t.term 1;
      initiator = Some v;
      raised = false;
      held = slice_set (replicate 64 empty_payload) v (record { held = Packet; packet = proposal_of (noes_of c) (positions_of c) v t.term });
    }

-- what a proposal tells, and the part that it leaves
pub record Proposed : Type 0 where
  pub told : Tested
  pub part : CapturePart

unfoldable pub propose_part : RoomConf → CapturePart → ℕ → Proposed
propose_part c t v =
    let told = propose_test c t.term v in
    either (is_ok told) (record { told = Ok tt; part = proposed_in c t v }) (record { told = told; part = t })

-- ---- a round (2, 11, 12, then 15 to 17 by the engine)

-- the refusals that are known before it runs
unfoldable pub capture_test : RoomConf → Bool → ℕ → Tested
capture_test c proposed slot =
    result_and (size_test (positions_of c))
    (result_and (capture_only c.kind)
    (result_and (holds_or proposed NoProposal) (length_test c.round slot)))

-- the state that it starts from
abbrev pub ce_state : Network → CapturePart → CeState
ce_state w t = record { network = w; held = t.held; draw = record { at = 0; short = false }; ended = false }

-- the progress of a position, one higher: so it is for everybody once in a term, at the end of the first round that
-- meets the goal
unfoldable pub raised : Node → Node
raised v =
    record {
      state = v.state;
      flood_remaining = v.flood_remaining;
      last_progress_slot = v.last_progress_slot;
      goal_reached = v.goal_reached;
      progress_count = inc v.progress_count;
      slots_listen = v.slots_listen;
      slots_flood = v.slots_flood;
      slots_sleep = v.slots_sleep;
    }

abbrev pub raise_at : ℕ → List Node → List Node
raise_at i l = slice_set l i (raised (slice_index_or l i no_node))

unfoldable pub raised_all : ℕ → List Node → List Node
raised_all n l = upto (at_most64 n) raise_at l

-- network and part at its end
unfoldable pub network_after : RoomConf → CapturePart → CeState → Network
network_after c t s = either (s.ended && not t.raised) (with_nodes s.network (raised_all (positions_of c) s.network.nodes)) s.network

abbrev pub with_held : CapturePart → Bool → List Payload → CapturePart
with_held t raised held = record { term = t.term; initiator = t.initiator; raised = raised; held = held }

abbrev pub part_after : CapturePart → CeState → CapturePart
part_after t s = with_held t (t.raised || s.ended) s.held

-- what a round tells, and what it leaves
pub record Captured : Type 0 where
  pub told : Tested
  pub cursor : ℕ
  pub used : ℕ
  pub network : Network
  pub part : CapturePart

-- A refused round leaves all as it was.
abbrev pub refused_capture : Tested → Network → CapturePart → ℕ → ℕ → Captured
refused_capture told w t cursor used = record { told = told; cursor = cursor; used = used; network = w; part = t }

unfoldable pub captured_by : RoomConf → Network → CapturePart → ℕ → ℕ → CeAnswer → Captured
captured_by c w t cursor used a =
    either (is_ok a.told)
    (record { told = Ok tt; cursor = a.state.draw.at; used = a.used; network = network_after c t a.state; part = part_after t a.state })
    (refused_capture a.told w t cursor used)

unfoldable pub capture_part : List ℕ → ℕ → ℕ → RoomConf → Network → CapturePart → ℕ → Captured
capture_part ws numbers used c w t cursor =
    let told = capture_test c (is_some t.initiator) w.slot in
    either (is_ok told)
    (captured_by c w t cursor used (answer_of ws numbers used c.round (ce_state w t) (proposer t) cursor))
    (refused_capture told w t cursor used)

unfoldable pub capture_rows : List ℕ → List ℕ → ℕ → RoomConf → Network → CapturePart → ℕ → List ℕ
capture_rows ws rows used c w t cursor =
    either (is_ok (capture_test c (is_some t.initiator) w.slot)) (buffer_of ws rows used c.round (ce_state w t) (proposer t) cursor) rows
