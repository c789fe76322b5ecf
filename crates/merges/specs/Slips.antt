-- Slips: RULES none. A merge never looks at a packet's data, so it is computed on packets without it; here is said
-- what such a slip stands for.
-- Assumes nothing: these are definitions.
use Rattle.std.specs.Prelude.{◌≡◌, ℕ, Option, Some, None, ◌==◌}
use Rattle.loops.specs.Pick.{either}
use Rattle.packets.specs.declared.Data.{Data}
use Rattle.packets.specs.declared.CeTwoPcPacket.{CeTwoPcPacket}
use Rattle.merges.specs.declared.merging.Held.{Held}
use Rattle.merges.specs.declared.merging.Held.TheVariants.{Packet}
use Rattle.merges.specs.declared.merging.Payload.{Payload}
use Rattle.merges.specs.declared.merging.Slip.{Slip}
use Rattle.merges.specs.declared.merging.Draft as slips
use Rattle.merges.specs.Merging.{Noes, Draft, Merged, redundant, new_info, heard_of}

-- the packet that a slip stands for, where d says whose data is which
abbrev pub packet_of : (ℕ → Data) → Slip → CeTwoPcPacket
packet_of d s =
    record { term = s.term; phase = s.phase; proposal_data = d s.source; flags_bitmap = s.flags_bitmap }

-- whose data is which where two packets meet: number 0 is a, any other b
abbrev pub whose : Data → Data → ℕ → Data
whose a b k = either (k == 0) a b

-- the rules' draft that a draft on a slip stands for
abbrev pub draft_of : (ℕ → Data) → slips.Draft → Draft
draft_of d x = record { packet = packet_of d x.slip; news = x.news }

-- what an answer says of a merge into l: a slip is what is held from now on, and without one l stays
abbrev pub answered : (ℕ → Data) → Payload → Option Slip → Merged
answered d l None = redundant l
answered d l (Some s) = new_info (packet_of d s)

-- r is what position v makes of a received slip: what is new to it, if anything is. Whatever payload the local slip
-- stands for, and whatever the data are, the merge's rule says what r says.
pub record HeardBy (nay : Noes) (n v : ℕ) (held : Held) (local received : Slip) (r : Option Slip) : Type 0 where
  pub merged : (d : ℕ → Data) (l : Payload) → l.held ≡ held → (held ≡ Packet → l.packet ≡ packet_of d local)
      → heard_of nay n v l (packet_of d received) held ≡ answered d l r
