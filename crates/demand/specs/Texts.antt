-- RULES 11.9. What demand 3 says by texts, in two other ways: by what the room holds, and by what a reading hands out.
-- Assumes nothing: these are statements. They are proved in proofs/Texts.antt.
use Rattle.std.specs.Prelude.{◌≡◌, ℕ, ◌≤◌, ◌<◌, ◌^◌, length, take, Ok}
use mathlib.Core.List.{List, Memᴰ}
use Rattle.packets.specs.declared.TwoPcPhase.{TwoPcPhase}
use Rattle.merges.specs.declared.merging.Held.TheVariants.{Packet}
use Rattle.room.specs.declared.room.RoomKind.TheVariants as kinds
use Rattle.room.specs.declared.room.Room.{Room}
use Rattle.room.specs.declared.room.Asked.{Asked}
use Rattle.room.specs.Rooms.{size_of, held_at, open_test, opened_by}
use Rattle.readings.specs.Readings.{text_of, text_left}
use Rattle.demand.specs.Calls.{Call, moments}
use Rattle.demand.specs.Demand.{held_text, HoldsPhase}

-- by value: what position v of a capture room holds is a packet of term t and phase f
pub record HoldsValue (r : Room) (v t : ℕ) (f : TwoPcPhase) : Type 0 where
  pub kind : r.conf.kind ≡ kinds.Capture
  pub position : v < size_of r
  pub held : (held_at r v).held ≡ Packet
  pub term : (held_at r v).packet.term ≡ t
  pub phase : (held_at r v).packet.phase ≡ f

-- A position holds a phase for a term, by its text, exactly if the packet that it holds has both. The last two are of
-- the reading of a position's text: where the longest text has room, it answers with the length of the text that demand
-- 3 means, and writes that text.
pub record SameTexts (r : Room) : Type 0 where
  pub value : (v t : ℕ) (f : TwoPcPhase) → HoldsPhase r v t f → HoldsValue r v t f
  pub text : (v t : ℕ) (f : TwoPcPhase) → HoldsValue r v t f → HoldsPhase r v t f
  pub answers : (v : ℕ) (out : List ℕ) → r.conf.kind ≡ kinds.Capture → v < size_of r → 596 ≤ length out
      → text_of r v out ≡ Ok (length (held_text r v))
  pub writes : (v : ℕ) (out : List ℕ) → r.conf.kind ≡ kinds.Capture → v < size_of r → 596 ≤ length out
      → take (length (held_text r v)) (text_left r v out) ≡ held_text r v

-- For every accepted opening, every list of calls and every moment of it.
abbrev pub TextsGive : Type 0
TextsGive =
    (asked : Asked) → asked.term < 2 ^ 64 → open_test asked ≡ Ok tt
    → (calls : List Call) (a : Room) → Memᴰ a (moments calls (opened_by asked))
    → SameTexts a
