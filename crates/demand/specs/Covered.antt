-- RULES 10.4 and 10.10: sleepers get what the initiator holds, and covered is counted by
-- bytes, whatever the calls. For that, what the positions of a pipeline room hold are packets that a text stands for.
-- Assumes nothing: these are definitions and statements. They are proved in proofs/Covered.antt.
use Rattle.std.specs.Prelude.{Bool, true, false, ◌&&◌, ◌≡◌, ℕ, ◌+◌, ◌%◌, ◌^◌, ◌≤◌, ◌<◌, eqb, length, get_or, take, Ok}
use mathlib.Core.List.{List, [], ◌∷◌, Memᴰ}
use Rattle.loops.specs.Pick.{either}
use Rattle.marks.specs.Marks.{has, marks, count_of}
use Rattle.packets.specs.Packets.{pipeline_text, ValidPipeline}
use Rattle.packets.specs.declared.TwoPcPacket.{TwoPcPacket}
use Rattle.engines.specs.Nodes.{no_node}
use Rattle.engines.specs.declared.node.NodeState.{NodeState}
use Rattle.engines.specs.declared.node.NodeState.TheVariants.{Sleep}
use Rattle.pipeline.specs.Pipeline.{packet_of}
use Rattle.pipeline.specs.Round.{no_packet}
use Rattle.room.specs.declared.room.RoomKind.TheVariants as kinds
use Rattle.room.specs.declared.room.Room.{Room}
use Rattle.room.specs.declared.room.Asked.{Asked}
use Rattle.room.specs.Rooms.{size_of, open_test, opened_by, pipeline_of}
use Rattle.readings.specs.Readings.{text_of, text_left}
use Rattle.demand.specs.Calls.{Call, after, moments}

-- ---- what a position of a pipeline room holds

-- a packet, if its mark is there
abbrev pub holds_one : Room → ℕ → Bool
holds_one r v = has r.pipeline.holding v

abbrev pub packet_at : Room → ℕ → TwoPcPacket
packet_at r v = packet_of (size_of r) (get_or r.pipeline.payloads v no_packet)

-- the bytes of it: those of the packet's text, and none where there is no packet
abbrev pub bytes_at : Room → ℕ → List ℕ
bytes_at r v = either (holds_one r v) (pipeline_text (packet_at r v)) []

-- Each packet held is one that a text stands for: within the limits, and its numbers fit. So different ones have
-- different bytes. The last two are of the reading of a position's text: where the longest text has room, it answers
-- with how many bytes are meant here, and writes them.
pub record ValidTexts (r : Room) : Type 0 where
  pub valid : (v : ℕ) → holds_one r v ≡ true → ValidPipeline (packet_at r v)
  pub answers : (v : ℕ) (out : List ℕ) → r.conf.kind ≡ kinds.Pipeline → v < size_of r → 758 ≤ length out
      → text_of r v out ≡ Ok (length (bytes_at r v))
  pub writes : (v : ℕ) (out : List ℕ) → r.conf.kind ≡ kinds.Pipeline → v < size_of r → 758 ≤ length out
      → take (length (bytes_at r v)) (text_left r v out) ≡ bytes_at r v

-- For every accepted opening, every list of calls and every moment of it.
abbrev pub HeldAreValid : Type 0
HeldAreValid =
    (asked : Asked) → open_test asked ≡ Ok tt
    → (calls : List Call) (a : Room) → Memᴰ a (moments calls (opened_by asked))
    → ValidTexts a

-- ---- covered

-- the same bytes, as many of them
unfoldable pub equal_bytes : List ℕ → List ℕ → Bool
equal_bytes [] [] = true
equal_bytes [] (b ∷ t) = false
equal_bytes (a ∷ s) [] = false
equal_bytes (a ∷ s) (b ∷ t) = eqb a b && equal_bytes s t

-- the test is what it is called
pub record TestsBytes : Type 0 where
  pub yes : (s t : List ℕ) → equal_bytes s t ≡ true → s ≡ t
  pub no : (s t : List ℕ) → equal_bytes s t ≡ false → s ≡ t → ⊥

-- how many positions hold the bytes of position i
unfoldable pub same_bytes : Room → ℕ → ℕ
same_bytes r i = count_of (marks (size_of r) (λ v. equal_bytes (bytes_at r v) (bytes_at r i))) (size_of r)

abbrev pub covered_in : Room → ℕ
covered_in r = r.network.metrics.flood_nodes_covered

abbrev pub state_in : Room → ℕ → NodeState
state_in r v = (get_or r.network.nodes v no_node).state

-- A round with initiator i, from room a to room b: the initiator holds a packet, and so does whoever sleeps, the same
-- bytes; the count rises by the number of positions that hold these bytes.
pub record Covers (i : ℕ) (a b : Room) : Type 0 where
  pub texts : ValidTexts b
  pub initiator : holds_one b i ≡ true
  pub sleepers : (v : ℕ) → v < size_of b → state_in b v ≡ Sleep → bytes_at b v ≡ bytes_at b i
  pub covered : covered_in b ≡ (covered_in a + same_bytes b i) % 2 ^ 64

-- For every accepted opening, every list of calls, and every pipeline round that is accepted behind it: round r is
-- that of position r mod n.
abbrev pub CoveredByBytes : Type 0
CoveredByBytes =
    (asked : Asked) → open_test asked ≡ Ok tt
    → (calls : List Call) (words : List ℕ) (cursor : ℕ) (rows : List ℕ) (used : ℕ)
    → let r = after calls (opened_by asked) in
    let a = pipeline_of words (length rows) used r cursor in
    a.told ≡ Ok tt → Covers (r.pipeline.round % size_of r) r a.room
