-- Cases of votes, merges, outcomes and late copies: those of RULES 4.1, 6.9, 11.12 and 11.13, and small ones that
-- tell the rules from their neighbours. Assumes nothing: these are statements, proved by computing in proofs/MergeCases.antt.
use Rattle.std.specs.Prelude.{◌≡◌, ℕ, true, false, List, [], ◌∷◌, replicate, ◌==◌, from_bits, Float}
use Rattle.std.specs.Float.{nan, binary64}
use Rattle.std.specs.Float.Ieee.{lt}
use Rattle.merges.specs.Votes.{no_of}
use Rattle.merges.specs.Merging.{Noes, redundant, new_info, merge_of, proposal_of, no_payload, can_sleep_of, network_goal_of, outcome_of}
use Rattle.limits.specs.Limits.{last_term}
use Rattle.merges.specs.Late.{Event, Propose, Deliver, held_at, room_history}
use Rattle.packets.specs.declared.TwoPcPhase.{TwoPcPhase}
use Rattle.packets.specs.declared.TwoPcPhase.TheVariants.{Prepare, Committed, Aborted}
use Rattle.packets.specs.declared.CeTwoPcPacket.{CeTwoPcPacket}
use Rattle.merges.specs.declared.votes.Voting.{Voting}
use Rattle.merges.specs.declared.merging.ProposalOutcome.TheVariants as outcome
use Rattle.merges.specs.declared.merging.Held.TheVariants.{Unreadable, Packet}
use Rattle.merges.specs.declared.merging.Payload.{Payload}

-- ---- votes: the abort probabilities 0.0005 and 1 by their patterns
abbrev pub voting : ℕ → ℕ → ℕ → Voting
voting n p seed = record { n = n; abort_probability = from_bits binary64 p; seed = seed }

-- a share of 0.0004 lies below 0.0005, and one of 0.0005 does not
abbrev pub MarkedVotes : Type 0
MarkedVotes =
    (no_of (voting 2 0x3F40_624D_D2F1_A9FC 0x61C8_8646_80B5_83EC) 1 0 ≡ true)
    × (no_of (voting 2 0x3F40_624D_D2F1_A9FC 0x61C8_8646_80B5_83EC) 1 1 ≡ false)

-- under this seed every hash is 0, so that everybody votes no in every term, whatever the probability above 0
abbrev pub AllNo : Type 0
AllNo =
    (n t v : ℕ) (p : Float) → lt (from_bits binary64 0) p ≡ true
    → no_of (record { n = n; abort_probability = p; seed = 0x61C8_8646_80B5_83EB }) t v ≡ true

-- a probability that is no number has every vote yes
abbrev pub NanYes : Type 0
NanYes = (n t v seed : ℕ) → no_of (record { n = n; abort_probability = nan; seed = seed }) t v ≡ false

-- ---- merges: packets of term 1 with the data byte d, or with none
abbrev pub held : TwoPcPhase → List ℕ → ℕ → ℕ → CeTwoPcPacket
held f d len m =
    record { term = 1; phase = f; proposal_data = record { len = 1; bytes = d }; flags_bitmap = record { len = len; marks = m } }

abbrev pub on : CeTwoPcPacket → Payload
on p = record { held = Packet; packet = p }

abbrev pub garbled : Payload
garbled = record { held = Unreadable; packet = no_payload.packet }

abbrev pub all_yes : Noes
all_yes t i = false

abbrev pub all_no : Noes
all_no t i = true

-- position 1 alone votes no
abbrev pub one_no : Noes
one_no t i = i == 1

abbrev pub a : List ℕ
a = 97 ∷ []

abbrev pub b : List ℕ
b = 98 ∷ []

-- adopting votes even if the own entry is marked; a merge within the term does not
abbrev pub AdoptingVotes : Type 0
AdoptingVotes =
    (merge_of (no_of (voting 2 0x3FF0_0000_0000_0000 0)) 2 1 no_payload (on (held Prepare a 2 3)) ≡ new_info (held Aborted a 2 2))
    × (merge_of (no_of (voting 3 0x3FF0_0000_0000_0000 0)) 3 1 (on (held Prepare b 3 2)) (on (held Prepare a 3 3)) ≡ new_info (held Prepare b 3 3))

-- the data stays local, also where the received phase is taken
abbrev pub DataStays : Type 0
DataStays = merge_of all_yes 2 1 (on (held Prepare b 2 2)) (on (held Aborted a 2 1)) ≡ new_info (held Aborted b 2 3)

-- the join is over the first n entries, and unanimity needs those behind n too
abbrev pub BehindN : Type 0
BehindN = merge_of all_yes 2 0 (on (held Prepare a 3 1)) (on (held Prepare a 3 7)) ≡ new_info (held Prepare a 3 3)

-- taking a phase takes all its entries, and a decision made here cuts to n
abbrev pub AllEntries : Type 0
AllEntries =
    (merge_of all_yes 2 0 (on (held Prepare a 2 1)) (on (held Committed a 3 6)) ≡ new_info (held Committed a 3 7))
    × (merge_of all_yes 2 0 (on (held Prepare a 3 6)) (on (held Prepare a 3 0)) ≡ new_info (held Committed a 2 1))

-- unanimity is tested even if nothing else is new
abbrev pub UnanimousAlready : Type 0
UnanimousAlready = merge_of all_yes 2 0 (on (held Prepare a 2 3)) (on (held Prepare a 0 0)) ≡ new_info (held Committed a 2 1)

-- Redundant keeps a short bitmap, NewInfo writes it filled
abbrev pub ShortBitmap : Type 0
ShortBitmap =
    (merge_of all_yes 2 0 (on (held Committed a 1 1)) (on (held Committed a 1 1)) ≡ redundant (on (held Committed a 1 1)))
    × (merge_of all_yes 2 1 (on (held Committed a 1 1)) (on (held Committed a 1 1)) ≡ new_info (held Committed a 2 3))

-- a lower received phase still has the own entry marked
abbrev pub LowerPhase : Type 0
LowerPhase = merge_of all_yes 2 1 (on (held Committed a 2 1)) (on (held Prepare a 2 2)) ≡ new_info (held Committed a 2 3)

-- what is no packet is redundant, and so is any packet to an unreadable local
abbrev pub NoPacket : Type 0
NoPacket =
    (merge_of all_yes 2 0 no_payload no_payload ≡ redundant no_payload)
    × (merge_of all_yes 2 0 (on (held Prepare a 2 1)) garbled ≡ redundant (on (held Prepare a 2 1)))
    × (merge_of all_yes 2 0 garbled (on (held Prepare a 2 1)) ≡ redundant garbled)

-- ---- proposals: term 1, data "tx1"
abbrev pub proposed : TwoPcPhase → ℕ → ℕ → CeTwoPcPacket
proposed f len m =
    record {
      term = 1;
      phase = f;
      proposal_data = record { len = 3; bytes = 116 ∷ 120 ∷ 49 ∷ replicate 29 0 };
      flags_bitmap = record { len = len; marks = m };
    }

-- a room of 1 decides on proposing; of 2, the second commits, or aborts, and the first has both marks then
abbrev pub Proposals : Type 0
Proposals =
    (proposal_of all_yes 1 0 0 ≡ proposed Committed 1 1)
    × (proposal_of all_no 1 0 0 ≡ proposed Aborted 1 1)
    × (proposal_of all_yes 2 0 0 ≡ proposed Prepare 2 1)
    × (merge_of all_yes 2 1 no_payload (on (proposed Prepare 2 1)) ≡ new_info (proposed Committed 2 2))
    × (merge_of all_yes 2 0 (on (proposed Prepare 2 1)) (on (proposed Committed 2 2)) ≡ new_info (proposed Committed 2 3))
    × (merge_of one_no 2 1 no_payload (on (proposed Prepare 2 1)) ≡ new_info (proposed Aborted 2 2))

-- ---- outcomes
abbrev pub Outcomes : Type 0
Outcomes =
    (network_goal_of 2 (on (held Committed a 2 1) ∷ on (held Committed a 2 2) ∷ []) ≡ true)
    × (network_goal_of 2 (on (held Committed a 2 1) ∷ no_payload ∷ []) ≡ false)
    × (outcome_of 2 (on (held Committed a 2 1) ∷ on (held Committed a 2 2) ∷ []) ≡ outcome.Committed)
    × (outcome_of 2 (on (held Committed a 2 1) ∷ on (held Prepare a 2 2) ∷ []) ≡ outcome.TimedOut)
    × (outcome_of 2 (on (held Committed a 2 1) ∷ no_payload ∷ []) ≡ outcome.TimedOut)
    × (outcome_of 2 (no_payload ∷ no_payload ∷ []) ≡ outcome.TimedOut)
    × (outcome_of 2 (on (held Prepare a 2 1) ∷ on (held Aborted a 2 2) ∷ []) ≡ outcome.Aborted)
    × (outcome_of 2 (no_payload ∷ on (held Aborted a 2 2) ∷ []) ≡ outcome.Aborted)
    × (outcome_of 2 (on (held Committed a 2 1) ∷ on (held Aborted a 2 2) ∷ []) ≡ outcome.Aborted)
    × (outcome_of 1 (on (held Committed a 2 1) ∷ on (held Aborted a 2 2) ∷ []) ≡ outcome.Committed)
    × (outcome_of 0 (on (held Aborted a 2 1) ∷ []) ≡ outcome.TimedOut)
    × (can_sleep_of 2 (on (held Committed a 2 3)) ≡ true)
    × (can_sleep_of 2 (on (held Committed a 3 3)) ≡ false)

-- ---- late copies: under the seed of `MarkedVotes` position 0 votes no in term 1, and everybody yes in term 2
abbrev pub late_at : ℕ → ℕ → List Event → ℕ → ℕ → Payload
late_at n t es m u = held_at (room_history (voting n 0x3F40_624D_D2F1_A9FC 0x61C8_8646_80B5_83EC) t es) m u

abbrev pub Says : ℕ → TwoPcPhase → Payload → Type 0
Says t f l = (l.held ≡ Packet) × (l.packet.term ≡ t) × (l.packet.phase ≡ f)

-- a lone position aborts term 1 and commits term 2: then a copy of the abort says nothing to it
abbrev pub alone : List Event
alone = Propose 0 ∷ Propose 0 ∷ Deliver 0 1 0 ∷ []

-- of two, position 0 aborts term 1, and 1 proposes anew; 0, now empty, takes the old abort up again, and leaves it
-- for term 2, which it commits
abbrev pub again : List Event
again = Propose 1 ∷ Deliver 0 0 1 ∷ Propose 1 ∷ Deliver 0 1 0 ∷ Deliver 0 0 1 ∷ []

-- both know of an abort: then a copy of the proposal opens it no more
abbrev pub reopened : List Event
reopened = Propose 1 ∷ Deliver 0 0 1 ∷ Deliver 1 0 0 ∷ Deliver 1 2 1 ∷ []

-- and in the last term nobody proposes any more
abbrev pub LateCopies : Type 0
LateCopies =
    (Says 1 Aborted (late_at 1 0 alone 2 0)
    × Says 2 Committed (late_at 1 0 alone 1 0)
    × Says 2 Committed (late_at 1 0 alone 0 0))
    × (Says 1 Aborted (late_at 2 0 again 3 0)
    × (late_at 2 0 again 2 0 ≡ no_payload)
    × Says 1 Aborted (late_at 2 0 again 1 0))
    × (Says 2 Committed (late_at 2 0 again 0 0) × Says 2 Prepare (late_at 2 0 again 0 1))
    × (Says 1 Prepare (late_at 2 0 reopened 3 1)
    × Says 1 Aborted (late_at 2 0 reopened 1 1)
    × Says 1 Aborted (late_at 2 0 reopened 0 1))
    × (late_at 2 last_term (Propose 0 ∷ []) 0 0 ≡ no_payload)

abbrev pub MergeTable : Type 0
MergeTable =
    MarkedVotes × AdoptingVotes × DataStays × BehindN × AllEntries × UnanimousAlready × ShortBitmap × LowerPhase × NoPacket × Proposals × Outcomes
    × LateCopies
