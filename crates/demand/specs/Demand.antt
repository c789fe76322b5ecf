-- RULES 11.9. Demand 3: one statement over lists of a room's calls. Assumes nothing: it is proved in
-- proofs/Demand.antt.
use Rattle.std.specs.Prelude.{◌≡◌, Result, Ok, ℕ, ◌*◌, ◌<◌, ◌^◌, length, get_or, take}
use mathlib.Core.List.{List, [], Memᴰ}
use Rattle.merges.specs.Sound.{AllYes, SomeNo}
use Rattle.packets.specs.declared.TwoPcPhase.{TwoPcPhase}
use Rattle.packets.specs.declared.TwoPcPhase.TheVariants.{Committed, Aborted}
use Rattle.packets.specs.declared.CeTwoPcPacket.{CeTwoPcPacket}
use Rattle.limits.specs.declared.refusals.Refusal.{Refusal}
use Rattle.packets.specs.Packets.{ce_text}
use Rattle.packets.specs.Reading.{ce_read}
use Rattle.merges.specs.declared.merging.Held.{Held}
use Rattle.merges.specs.declared.merging.Held.TheVariants.{Empty, Unreadable, Packet}
use Rattle.engines.specs.Nodes.{total}
use Rattle.pipeline.specs.Pending.{no_entry}
use Rattle.pipeline.specs.Pipeline.{no_state}
use Rattle.pipeline.specs.declared.two_pc_pipeline.TxLog.{TxLog}
use Rattle.room.specs.declared.room.RoomKind.TheVariants as kinds
use Rattle.room.specs.declared.room.Room.{Room}
use Rattle.room.specs.declared.room.Asked.{Asked}
use Rattle.room.specs.Capturing.{noes_of}
use Rattle.room.specs.Rooms.{size_of, held_at, open_test, opened_by}
use Rattle.demand.specs.Calls.{Call, after, elapsed, moments}

-- the log of position v
abbrev pub log_at : Room → ℕ → TxLog
log_at r v = (get_or r.pipeline.states v no_state).log

-- entry k of a log a is there, and is entry k of b too: the same transaction with the same outcome
pub record Logged (a b : TxLog) (k : ℕ) : Type 0 where
  pub there : k < b.len
  pub same : get_or b.entries k no_entry ≡ get_or a.entries k no_entry

-- the text of a packet that is held; of what is no packet there is none
abbrev pub text_in : CeTwoPcPacket → Held → List ℕ
text_in p Empty = []
text_in p Unreadable = []
text_in p Packet = ce_text p

-- The text of what position v of a capture room holds. It is what the reading `packet_text` writes (specs/Texts).
abbrev pub held_text : Room → ℕ → List ℕ
held_text r v = text_in (held_at r v).packet (held_at r v).held

-- what the reader of packets makes of the whole of it
abbrev pub held_read : Room → ℕ → Result CeTwoPcPacket Refusal
held_read r v = ce_read (held_text r v) (length (held_text r v))

-- Position v holds phase f for term t: its text is accepted by the reader of packets, and gives both. An empty text is
-- not accepted, so an empty position holds none; nor does any position of a pipeline room.
pub record HoldsPhase (r : Room) (v t : ℕ) (f : TwoPcPhase) : Type 0 where
  pub kind : r.conf.kind ≡ kinds.Capture
  pub position : v < size_of r
  pub packet : CeTwoPcPacket
  pub accepted : held_read r v ≡ Ok packet
  pub term : packet.term ≡ t
  pub phase : packet.phase ≡ f

-- all votes of the room's positions for term t are yes; one or more are no
abbrev pub AllVoteYes : Room → ℕ → Type 0
AllVoteYes r t = AllYes (noes_of r.conf) (size_of r) t

abbrev pub SomeVoteNo : Room → ℕ → Type 0
SomeVoteNo r t = SomeNo (noes_of r.conf) (size_of r) t

-- The demand's clauses: the room was opened as o, e slots have elapsed, a is an earlier moment and b is the present
-- one. What is fixed is as it was opened.
pub record Holds (o : Room) (e : ℕ) (a b : Room) : Type 0 where
  pub fixed : b.conf ≡ o.conf
  pub slot : b.network.slot ≡ e
  pub counts : total (take (size_of o) b.network.nodes) ≡ size_of o * e
  pub logged : (v k : ℕ) → v < size_of o → k < (log_at a v).len → Logged (log_at a v) (log_at b v) k
  pub agreed : (u v t : ℕ) → HoldsPhase b u t Committed → HoldsPhase b v t Aborted → ⊥
  pub committed : (v t : ℕ) → HoldsPhase b v t Committed → AllVoteYes o t
  pub aborted : (v t : ℕ) → HoldsPhase b v t Aborted → SomeVoteNo o t
  pub commit_firm : (v t : ℕ) (f : TwoPcPhase) → HoldsPhase a v t Committed → HoldsPhase b v t f → f ≡ Committed
  pub abort_firm : (v t : ℕ) (f : TwoPcPhase) → HoldsPhase a v t Aborted → HoldsPhase b v t f → f ≡ Aborted

-- For every accepted opening, every list of calls and every earlier moment.
abbrev pub Demand3 : Type 0
Demand3 =
    (asked : Asked) → asked.term < 2 ^ 64 → open_test asked ≡ Ok tt
    → (calls : List Call) (a : Room) → Memᴰ a (moments calls (opened_by asked))
    → Holds (opened_by asked) (elapsed calls (opened_by asked)) a (after calls (opened_by asked))
