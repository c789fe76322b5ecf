-- RULES 8.5, 8.6 and 7.5: what a slot's plan does to what positions hold, and the bytes that are sent.
-- Assumes nothing.
use Rattle.std.specs.Prelude.{ℕ, Bool, true, false, List, nat_lt, slice_index, slice_index_or, slice_set}
use Rattle.loops.specs.Pick.{either}
use Rattle.loops.specs.Upto.{upto}
use Rattle.loops.specs.Wrap.{add64}
use Rattle.packets.specs.Packets.{ce_text, ce_within}
use Rattle.packets.specs.Writing.{text_len}
use Rattle.merges.specs.Votes.{no_of}
use Rattle.merges.specs.Merging.{MergeResult, Redundant, NewInfo, Merged, merge_of, redundant, no_payload, goal_of, can_sleep_of}
use Rattle.packets.specs.declared.CeTwoPcPacket.{CeTwoPcPacket}
use Rattle.merges.specs.declared.votes.Voting.{Voting}
use Rattle.merges.specs.declared.merging.Held.{Held}
use Rattle.merges.specs.declared.merging.Held.TheVariants.{Empty, Unreadable, Packet}
use Rattle.merges.specs.declared.merging.Payload.{Payload}
use Rattle.engines.specs.Clamp.{at_most64}
use Rattle.engines.specs.Marked.{with_mark, over_marks}
use Rattle.engines.specs.Network.{on_air}

-- The length of a payload: that of its text, and nothing where there is no packet.
abbrev pub len_by : CeTwoPcPacket → Held → ℕ
len_by p Empty = 0
len_by p Unreadable = 0
len_by p Packet = text_len (ce_within p) (ce_text p)

unfoldable pub payload_len : Payload → ℕ
payload_len l = len_by l.packet l.held

-- Every flooding position that gets to act sends the payload that it held at the slot's start, be it empty.
unfoldable pub sent_at : List Payload → ℕ → ℕ → ℕ
sent_at held i sum = add64 sum (on_air (payload_len (slice_index_or held i no_payload)))

unfoldable pub sent_of : ℕ → List Payload → ℕ
sent_of flooding held = over_marks flooding (sent_at held) 0

abbrev pub is_news : MergeResult → Bool
is_news Redundant = false
is_news NewInfo = true

-- what position i makes of what position src holds; who hears nobody (64) keeps what it holds
abbrev pub merged_from : Voting → List Payload → ℕ → ℕ → Merged
merged_from s held i src =
    either (nat_lt src 64)
    (merge_of (no_of s) s.n i (slice_index_or held i no_payload) (slice_index_or held src no_payload))
    (redundant (slice_index_or held i no_payload))

-- Position i merges what the position that it hears held at the slot's start.
unfoldable pub hearing_of : Voting → List ℕ → List Payload → ℕ → Merged
hearing_of s hears held i = merged_from s held i (slice_index hears i)

-- What positions hold after a slot, and a mark for each whose merge was new to it, who then has reached its goal, and
-- who can sleep by what it holds.
pub record SlotMerges : Type 0 where
  pub held : List Payload
  pub new_info : ℕ
  pub goal_reached : ℕ
  pub can_sleep : ℕ

abbrev pub noted_if : Bool → ℕ → ℕ → ℕ
noted_if t i m = either t (with_mark m i) m

abbrev pub told_by : ℕ → ℕ → Merged → SlotMerges → SlotMerges
told_by n i m t =
    record {
      held = slice_set t.held i m.payload;
      new_info = noted_if (is_news m.result) i t.new_info;
      goal_reached = noted_if (goal_of m.payload) i t.goal_reached;
      can_sleep = noted_if (can_sleep_of n m.payload) i t.can_sleep;
    }

unfoldable pub told_at : Voting → List ℕ → List Payload → ℕ → SlotMerges → SlotMerges
told_at s hears held i t = told_by s.n i (hearing_of s hears held i) t

unfoldable pub told_all : Voting → List ℕ → List Payload → SlotMerges
told_all s hears held =
    upto (at_most64 s.n) (told_at s hears held) (record { held = held; new_info = 0; goal_reached = 0; can_sleep = 0 })
