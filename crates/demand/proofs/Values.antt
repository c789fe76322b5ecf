-- A position holds a phase for a term, by its text, exactly if the packet that it holds has both: each packet held is
-- within the limits, so its text is read back. Assumes nothing.
use Prim.Native.Nat.{ℕ}
use mathlib.Core.List.{List, []}
use mathlib.Core.Path.{◌≡◌, refl, sym, ap, ◌∙◌}
use lib.ListN.{length, get_or}
use lib.Seq.{take-length}
use native.Mathlib.Omega.{arith}
use borrow.Author.Tests.{le-leb}
use Rattle.packets.specs.Packets.{ce_text, ValidCe}
use Rattle.packets.specs.Reading.{ce_read_of, ce_read}
use Rattle.packets.specs.declared.TwoPcPhase.{TwoPcPhase}
use Rattle.packets.specs.declared.CeTwoPcPacket.{CeTwoPcPacket}
use Rattle.std.specs.Prelude.{Result, Ok}
use Rattle.limits.specs.declared.refusals.Refusal.{Refusal}
use Rattle.merges.specs.declared.merging.Held.{Held}
use Rattle.merges.specs.declared.merging.Held.TheVariants.{Empty, Unreadable, Packet}
use Rattle.packets.proofs.Promises.{ce_promises}
use Rattle.room.specs.declared.room.Room.{Room}
use Rattle.room.specs.Rooms.{held_at}
use Rattle.demand.specs.Demand.{text_in, HoldsPhase}
use Rattle.demand.specs.Texts.{HoldsValue}
use Rattle.room.proofs.Moments.{Inv}

-- ---- reading a text back

-- a text with its own length is read whole
read_whole : (s : List ℕ) → ce_read s (length s) ≡ ce_read_of s
unfolding ce_read
read_whole s = rw (le-leb (length s) (length s) (omega arith), take-length s)

-- no text at all is no packet
no_packet : (q : CeTwoPcPacket) → ce_read_of [] ≡ Ok q → ⊥
unfolding ce_text
no_packet q h = let z : ◌≡◌ {A = ℕ} 0 123 = ap (λ (l : List ℕ). get_or l 0 0) (ce_promises.given [] q h).0 in omega arith

abbrev read_of : CeTwoPcPacket → Held → Result CeTwoPcPacket Refusal
read_of p h = ce_read (text_in p h) (length (text_in p h))

-- what is no packet is refused
only_packets : (p : CeTwoPcPacket) (h : Held) (q : CeTwoPcPacket) → read_of p h ≡ Ok q → h ≡ Packet
only_packets p Empty q e = absurd (no_packet q (sym (read_whole []) ∙ e))
only_packets p Unreadable q e = absurd (no_packet q (sym (read_whole []) ∙ e))
only_packets p Packet q e = refl

-- a packet within the limits is given back
read_back : (p : CeTwoPcPacket) (h : Held) → h ≡ Packet → ValidCe p → read_of p h ≡ Ok p
read_back p h e v = rw (e, read_whole (ce_text p)) (ce_promises.back p v)

same_ok : {x y : CeTwoPcPacket} → ◌≡◌ {A = Result CeTwoPcPacket Refusal} (Ok x) (Ok y) → x ≡ y
same_ok e = cc

-- ---- a moment of a room

module _ (r : Room) (i : Inv r) where
  held_back : (v : ℕ) → (held_at r v).held ≡ Packet → read_of (held_at r v).packet (held_at r v).held ≡ Ok (held_at r v).packet
  held_back v e = read_back (held_at r v).packet (held_at r v).held e ((i.held v).valid e)

  pub value_held : (v t : ℕ) (f : TwoPcPhase) → HoldsPhase r v t f → HoldsValue r v t f
  value_held v t f g =
      let e = only_packets (held_at r v).packet (held_at r v).held g.packet g.accepted in
      let same : (held_at r v).packet ≡ g.packet = same_ok (sym (held_back v e) ∙ g.accepted) in
      record {
        kind = g.kind;
        position = g.position;
        held = e;
        term = ap (λ (p : CeTwoPcPacket). p.term) same ∙ g.term;
        phase = ap (λ (p : CeTwoPcPacket). p.phase) same ∙ g.phase;
      }

  pub text_held : (v t : ℕ) (f : TwoPcPhase) → HoldsValue r v t f → HoldsPhase r v t f
  text_held v t f h =
      record {
        kind = h.kind;
        position = h.position;
        packet = (held_at r v).packet;
        accepted = held_back v h.held;
        term = h.term;
        phase = h.phase;
      }
