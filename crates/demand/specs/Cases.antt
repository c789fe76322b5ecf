-- The marked cases of RULES 11.12, 8.10 and 9.7, as one table over the rules that the contracts of the room and of the
-- layers below cite. Assumes nothing: these are statements, proved in one go in proofs/Cases.antt.
use Rattle.std.specs.Prelude.{ℕ, ◌+◌, ◌*◌, ◌≤◌, ◌<◌, Bool, true, false, ◌&&◌, List, [], ◌∷◌, map, ◌≡◌, eqb, length, get_or, Float, Ok, Err, is_some}
use Rattle.std.specs.Float.{binary64}
use Rattle.std.specs.Float.Ieee.{of_bits, lt}
use Rattle.limits.specs.Limits.{last_slot, last_term}
use Rattle.limits.specs.declared.refusals.Refusal.TheVariants.{BadLoss}
use Rattle.std.specs.Result.{result_unwrap_or}
use Rattle.graph.specs.Links.{is_size, no_graph, rows_of, graph_test, topology_of}
use Rattle.merges.specs.Votes.{no_of}
use Rattle.merges.specs.Merging.{payload_of, Noes, merge_of, redundant, network_goal_of, outcome_of}
use Rattle.packets.specs.declared.TwoPcPhase.TheVariants.{Prepare, Committed}
use Rattle.packets.specs.declared.CeTwoPcPacket.{CeTwoPcPacket}
use Rattle.merges.specs.declared.merging.Held.TheVariants.{Empty, Packet}
use Rattle.merges.specs.declared.merging.Payload.{Payload}
use Rattle.merges.specs.declared.merging.ProposalOutcome.TheVariants as outcome
use Rattle.engines.specs.Nodes.{no_node, Alike}
use Rattle.capture.specs.Ce.{payload_len}
use Rattle.engines.specs.declared.node.Node.{Node}
use Rattle.engines.specs.declared.settings.Settings.{Settings}
use Rattle.room.specs.declared.room.RoomKind.{RoomKind}
use Rattle.room.specs.declared.room.RoomKind.TheVariants as kinds
use Rattle.room.specs.declared.room.Room.{Room}
use Rattle.room.specs.declared.room.Asked.{Asked}
use Rattle.room.specs.Kinds.{is_pipeline}
use Rattle.room.specs.Rooms.{size_of, held_at, open_test, opened_by, Proposal, propose_of, RoundAnswer, capture_of, pipeline_of}
use Rattle.room.specs.Slots.{capture_slots, pipeline_slots}
use Rattle.readings.specs.Readings.{outcome_read}

-- ---- what a room shows

abbrev pub node : Room → ℕ → Node
node r v = get_or r.network.nodes v no_node

-- the listen, flood and sleep counts of positions 0 and 1 together
abbrev pub counts_of_two : Room → List ℕ
counts_of_two r =
    ((node r 0).slots_listen + (node r 1).slots_listen)
    ∷ ((node r 0).slots_flood + (node r 1).slots_flood)
    ∷ ((node r 0).slots_sleep + (node r 1).slots_sleep)
    ∷ []

-- ---- two positions that hear each other

abbrev pub pair : List ℕ
pair = 2 ∷ 1 ∷ []

-- loss, abort probability and seed 0, timeout 100, one repeat
abbrev pub plain : Bool → ℕ → Settings
plain given slots =
    record {
      loss_rate = of_bits binary64 0;
      abort_probability = of_bits binary64 0;
      seed = 0;
      listen_timeout = 100;
      flood_repeats = 1;
      round_slots = slots;
      slots_given = given;
    }

-- rooms of them, with rows and a bound that no round reaches
abbrev pub asking : RoomKind → Settings → ℕ → Asked
asking kind s transactions =
    record { kind = kind; graph = result_unwrap_or (rows_of pair) no_graph; settings = s; transactions = transactions; term = 0; interval = last_slot; bound = last_slot }

-- a capture room of them with rounds of 20 slots, the proposal of position 0, and one round: no words, a buffer of one
-- row
abbrev pub capture_asked : Asked
capture_asked = asking kinds.Capture (plain true 20) 1

abbrev pub capture_room : Room
capture_room = opened_by capture_asked

abbrev pub proposal : Proposal
proposal = propose_of capture_room 0

abbrev pub captured : RoundAnswer
captured = capture_of [] 5 0 proposal.room 0

pub record LineOfTwo : Type 0 where
  pub line : rows_of pair ≡ topology_of 2 2 0
  pub opens : open_test capture_asked ≡ Ok tt
  pub proposes : proposal.told ≡ Ok tt
  pub runs : captured.told ≡ Ok tt
  -- the two packets sent, by the texts: position 0's in the first slot, position 1's, which it holds from then on, in the second
  pub first : payload_len (held_at proposal.room 0) ≡ 85
  pub second : map (λ r. payload_len (held_at r 1)) (capture_slots [] 0 proposal.room) ≡ 87 ∷ 87 ∷ 87 ∷ []
  -- and by the bytes sent after each of the three slots, 11 more for each packet sent
  pub sent : map (λ r. r.network.bytes_sent) (capture_slots [] 0 proposal.room) ≡ 96 ∷ 194 ∷ 194 ∷ []
  pub bytes : captured.room.network.bytes_sent ≡ 194
  -- position 0 holds another text at the end: both marks are true in it
  pub first_after : payload_len (held_at captured.room 0) ≡ 86
  pub goal : network_goal_of 2 captured.room.capture.held ≡ true
  pub raised : captured.room.capture.raised ≡ true
  pub ends : captured.room.network.slot ≡ 3
  pub counts : counts_of_two captured.room ≡ 3 ∷ 3 ∷ 0 ∷ []
  pub outcome : outcome_of 2 captured.room.capture.held ≡ outcome.Committed

-- The same with rounds of one slot: position 1 has committed by then, and position 0 has not heard of it.
abbrev pub short_asked : Asked
short_asked = asking kinds.Capture (plain true 1) 1

abbrev pub short_room : Room
short_room = opened_by short_asked

abbrev pub cut : RoundAnswer
cut = capture_of [] 5 0 (propose_of short_room 0).room 0

pub record DeadlineMet : Type 0 where
  pub opens : open_test short_asked ≡ Ok tt
  pub runs : cut.told ≡ Ok tt
  pub proposer : (held_at cut.room 0).packet.phase ≡ Prepare
  pub hearer : (held_at cut.room 1).packet.phase ≡ Committed
  -- the outcome that is read out: before anybody proposed, and when the slots have run out
  pub before : outcome_read short_room ≡ Ok outcome.TimedOut
  pub outcome : outcome_read cut.room ≡ Ok outcome.TimedOut

-- Two positions of which 0 hears 1 and nobody hears 0, timeout 1, rounds of 3 slots, and the coins no, yes, no:
-- position 1, which holds nothing, recovers in the second slot and floods in the third.
abbrev pub recovery_asked : Asked
recovery_asked =
    record {
      kind = kinds.Capture;
      graph = result_unwrap_or (rows_of (0 ∷ 1 ∷ [])) no_graph;
      settings =
          record {
            loss_rate = of_bits binary64 0;
            abort_probability = of_bits binary64 0;
            seed = 0;
            listen_timeout = 1;
            flood_repeats = 1;
            round_slots = 3;
            slots_given = true;
          };
      transactions = 1;
      term = 0;
      interval = last_slot;
      bound = last_slot;
    }

abbrev pub recovery_room : Room
recovery_room = opened_by recovery_asked

abbrev pub recovered : RoundAnswer
recovered =
    capture_of (18446744073709551615 ∷ 0 ∷ 18446744073709551615 ∷ []) 5 0 (propose_of recovery_room 0).room 0

pub record EmptyRecovery : Type 0 where
  pub opens : open_test recovery_asked ≡ Ok tt
  pub runs : recovered.told ≡ Ok tt
  pub empty : payload_len (held_at recovered.room 1) ≡ 0
  pub timeouts : recovered.room.network.metrics.ce_timeouts ≡ 1
  pub attempts : recovered.room.network.metrics.rx_attempts ≡ 1
  pub success : recovered.room.network.metrics.rx_success ≡ 1
  pub bytes : recovered.room.network.bytes_sent ≡ 107

-- a pipeline room of them with no transactions, whose round slots are not given, and one round: no words, a buffer of
-- one row
abbrev pub pipeline_asked : Asked
pipeline_asked = asking kinds.Pipeline (plain false 0) 0

abbrev pub pipeline_room : Room
pipeline_room = opened_by pipeline_asked

abbrev pub flooded : RoundAnswer
flooded = pipeline_of [] 5 0 pipeline_room 0

pub record MeshOfTwo : Type 0 where
  pub mesh : rows_of pair ≡ topology_of 1 2 0
  pub opens : open_test pipeline_asked ≡ Ok tt
  pub runs : flooded.told ≡ Ok tt
  -- two slots of the three that it may last
  pub full : flooded.room.conf.round.length ≡ 3
  pub slots : map (λ r. r.network.slot) (pipeline_slots [] 0 pipeline_room) ≡ 1 ∷ 2 ∷ []
  pub ends : flooded.room.network.slot ≡ 2
  pub counts : counts_of_two flooded.room ≡ 1 ∷ 2 ∷ 1 ∷ []
  pub covered : flooded.room.network.metrics.flood_nodes_covered ≡ 2
  pub stopped : flooded.room.pipeline.stop ≡ true
  pub bytes : flooded.room.network.bytes_sent ≡ 374

-- ---- votes: 0.0005 by its pattern

pub record Shares : Type 0 where
  pub no : no_of (record { n = 2; abort_probability = of_bits binary64 0x3F40_624D_D2F1_A9FC; seed = 0x61C8_8646_80B5_83EC }) 1 0 ≡ true
  pub yes : no_of (record { n = 2; abort_probability = of_bits binary64 0x3F40_624D_D2F1_A9FC; seed = 0x61C8_8646_80B5_83EC }) 1 1 ≡ false

-- every position in every term, whatever number the room has of them; a p above 0 is no NaN
abbrev pub AllNo : Type 0
AllNo =
    (n term v : ℕ) (p : Float) → lt (of_bits binary64 0) p ≡ true
    → no_of (record { n = n; abort_probability = p; seed = 0x61C8_8646_80B5_83EB }) term v ≡ true

-- ---- a room of 1: its links, settings, counts and slot may be any

pub record Alone (r : Room) : Type 0 where
  pub kind : r.conf.kind ≡ kinds.Capture
  pub size : size_of r ≡ 1

-- a proposal was made, and what the position holds is Committed
pub record Decided (r : Room) : Type 0 where
  pub proposed : is_some r.capture.initiator ≡ true
  pub held : (held_at r 0).held ≡ Packet
  pub phase : (held_at r 0).packet.phase ≡ Committed

-- The proposal in room r is accepted, and decides the next term; the slot stays.
pub record AloneProposed (r : Room) (q : Proposal) : Type 0 where
  pub accepted : q.told ≡ Ok tt
  pub fixed : q.room.conf ≡ r.conf
  pub slot : q.room.network.slot ≡ r.network.slot
  pub term : (held_at q.room 0).packet.term ≡ r.capture.term + 1
  pub decided : Decided q.room
  pub outcome : outcome_of 1 q.room.capture.held ≡ outcome.Committed

abbrev pub AloneProposes : Type 0
AloneProposes =
    (r : Room) → Alone r → r.conf.round.settings.abort_probability ≡ of_bits binary64 0 → r.capture.term < last_term
    → AloneProposed r (propose_of r 0)

-- The round of room r is accepted, draws no word, has one slot, in which nothing is sent, and reaches the goal.
pub record AloneEnded (ws : List ℕ) (cursor : ℕ) (r : Room) (q : RoundAnswer) : Type 0 where
  pub accepted : q.told ≡ Ok tt
  pub drawn : q.cursor ≡ cursor
  pub fixed : q.room.conf ≡ r.conf
  pub ends : q.room.network.slot ≡ r.network.slot + 1
  pub ticks : length (capture_slots ws cursor r) ≡ 1
  pub bytes : q.room.network.bytes_sent ≡ r.network.bytes_sent
  pub raised : q.room.capture.raised ≡ true
  pub held : q.room.capture.held ≡ r.capture.held
  pub decided : Decided q.room

-- Words, cursor and full length may be any; the premises leave out refusal 15, and refusal 17 for one row.
abbrev pub AloneEnds : Type 0
AloneEnds =
    (ws : List ℕ) (numbers used cursor : ℕ) (r : Room) → Alone r → Decided r
    → 1 ≤ r.conf.round.length → r.network.slot + r.conf.round.length ≤ last_slot → used * 5 + 5 ≤ numbers
    → AloneEnded ws cursor r (capture_of ws numbers used r cursor)

-- ---- rounds of no slots

-- room q has ended where room r started: slot, bytes sent and each position's counts are as they were
pub record Unmoved (r q : Room) : Type 0 where
  pub slot : q.network.slot ≡ r.network.slot
  pub bytes : q.network.bytes_sent ≡ r.network.bytes_sent
  pub counts : (v : ℕ) → Alike (node q v) (node r v)

pub record NoTick (ws : List ℕ) (cursor used : ℕ) (r : Room) (q : RoundAnswer) : Type 0 where
  pub accepted : q.told ≡ Ok tt
  pub drawn : q.cursor ≡ cursor
  pub rows : q.used ≡ used
  pub ticks : capture_slots ws cursor r ≡ []
  pub unmoved : Unmoved r q.room

-- every capture round of no slots that refusals 2, 11, 12, 15 and 17 leave
abbrev pub CaptureOfNoSlots : Type 0
CaptureOfNoSlots =
    (ws : List ℕ) (numbers used cursor : ℕ) (r : Room) → is_size (size_of r) ≡ true → r.conf.kind ≡ kinds.Capture → is_some r.capture.initiator ≡ true
    → r.conf.round.length ≡ 0 → r.network.slot ≤ last_slot → used * 5 ≤ numbers
    → NoTick ws cursor used r (capture_of ws numbers used r cursor)

-- Every pipeline round of no slots, accepted or refused. (It is prepared and processed all the same, so it may draw
-- words.)
pub record PipelineOfNoSlots : Type 0 where
  pub ticks : (ws : List ℕ) (cursor : ℕ) (r : Room) → r.conf.round.length ≡ 0 → pipeline_slots ws cursor r ≡ []
  pub unmoved : (ws : List ℕ) (numbers used cursor : ℕ) (r : Room) → r.conf.round.length ≡ 0 → Unmoved r (pipeline_of ws numbers used r cursor).room
  -- one that is accepted: two positions, no transactions
  pub opens : open_test (asking kinds.Pipeline (plain true 0) 0) ≡ Ok tt
  pub full : (opened_by (asking kinds.Pipeline (plain true 0) 0)).conf.round.length ≡ 0
  pub accepted : (pipeline_of [] 0 0 (opened_by (asking kinds.Pipeline (plain true 0) 0)) 0).told ≡ Ok tt

-- ---- merges

-- Redundant, and what is held stays: whatever packet stands beside, and for the text of no bytes in any buffer
pub record EmptyHeard : Type 0 where
  pub packet : (nay : Noes) (n v : ℕ) (l : Payload) (p : CeTwoPcPacket) → merge_of nay n v l (record { held = Empty; packet = p }) ≡ redundant l
  pub text : (nay : Noes) (n v : ℕ) (l : Payload) (s : List ℕ) → merge_of nay n v l (payload_of s 0) ≡ redundant l

-- ---- losses: -0.0 and 1.0 by their patterns

-- in any room that nothing else refuses
abbrev pub MinusZero : Type 0
MinusZero =
    (a : Asked) → graph_test a.graph ≡ Ok tt → a.settings.loss_rate ≡ of_bits binary64 0x8000_0000_0000_0000
    → (is_pipeline a.kind && eqb a.settings.flood_repeats 0) ≡ false → 1 ≤ a.interval → a.transactions ≤ 64
    → open_test a ≡ Ok tt

-- in any room that refusals 2 and 3 leave
abbrev pub One : Type 0
One = (a : Asked) → graph_test a.graph ≡ Ok tt → a.settings.loss_rate ≡ of_bits binary64 0x3FF0_0000_0000_0000 → open_test a ≡ Err BadLoss

-- ---- the table

pub record MarkedCases : Type 0 where
  -- Two positions in a line, nobody votes no, position 0 proposes: it sends 85 bytes, then the other 87, each behind
  -- a header, and in the third slot both hold Committed.
  pub capture_line : LineOfTwo
  -- The slots run out after the first of these three: one has committed, the other knows nothing of it. It timed out.
  pub deadline_met : DeadlineMet
  -- A flood of nothing is on air too: 85 bytes and a header, then a header alone.
  pub empty_recovery : EmptyRecovery
  -- Two positions that hear each other, nothing to agree on: each floods once, both hold the packet, and the room stops.
  pub pipeline_mesh : MeshOfTwo
  -- Seed 61C8864680B583EC, term 1, p = 0.0005: position 0 votes no, its share is 0.0004; position 1 votes yes, its share is 0.0005.
  pub shares : Shares
  -- The seed one lower, any p above 0: all vote no.
  pub all_no : AllNo
  -- A position on its own, with an abort probability of 0, has decided as soon as it proposes ..
  pub alone_proposes : AloneProposes
  -- .. and every round of that term that has a slot, the first and those after it, takes just one.
  pub alone_ends : AloneEnds
  -- A round of no slots ticks nobody and ends where it starts: in capture rooms ..
  pub capture_none : CaptureOfNoSlots
  -- .. and in pipeline rooms.
  pub pipeline_none : PipelineOfNoSlots
  -- To merge an empty text is Redundant, and what is held stays.
  pub empty_heard : EmptyHeard
  -- Loss -0.0: accepted.
  pub minus_zero : MinusZero
  -- Loss 1.0: refused, with 4.
  pub one : One
