-- RULES 17, entries on slices and numbers: what a lent list of numbers says of
-- what positions hold. Assumes nothing.
use Rattle.std.specs.Prelude.{Bool, ◌&&◌, List, [], ◌∷◌, ℕ, ◌+◌, ◌*◌, ◌%◌, eqb, leb, get_or}
use Rattle.std.proofs.lemmas.List.Edits.{sets}
use Rattle.limits.specs.Limits.{positions, data_bytes}
use Rattle.loops.specs.Pick.{either}
use Rattle.loops.specs.Table.{tabulate}
use Rattle.loops.specs.Upto.{upto}
use Rattle.std.specs.List.{list_all, range_with_len}
use Rattle.packets.specs.Packets.{limits}
use Rattle.packets_c.specs.Console.{phase_number, phase_numbered}
use Rattle.merges.specs.Merging.{no_payload}
use Rattle.packets.specs.declared.CeTwoPcPacket.{CeTwoPcPacket}
use Rattle.merges.specs.declared.merging.Held.{Held}
use Rattle.merges.specs.declared.merging.Held.TheVariants.{Empty, Unreadable, Packet}
use Rattle.merges.specs.declared.merging.Payload.{Payload}
use Rattle.engines.specs.Clamp.{at_most64}
use Rattle.engines_c.specs.Numbers.{cell}

abbrev pub held_number : Held → ℕ
held_number Empty = 0
held_number Unreadable = 1
held_number Packet = 2

-- a number that is none of the three reads as a packet
abbrev pub held_numbered : ℕ → Held
held_numbered n = either (eqb n 0) Empty (either (eqb n 1) Unreadable Packet)

-- a number that is no byte gives its low eight digits
unfoldable pub bytes_at : List ℕ → ℕ → ℕ → List ℕ
bytes_at xs at k = tabulate data_bytes (λ i. cell xs at (k + i) % 256)

-- A payload is 38 numbers: what it is, term, phase, lengths of data and bitmap, marks, bytes.
abbrev pub packet_at : List ℕ → ℕ → ℕ → CeTwoPcPacket
packet_at xs at k =
    record {
      term = cell xs at (k + 1);
      phase = phase_numbered (cell xs at (k + 2));
      proposal_data = record { len = cell xs at (k + 3); bytes = bytes_at xs at (k + 6) };
      flags_bitmap = record { len = cell xs at (k + 4); marks = cell xs at (k + 5) };
    }

unfoldable pub payload_at : List ℕ → ℕ → ℕ → Payload
payload_at xs at k = record { held = held_numbered (cell xs at k); packet = packet_at xs at k }

-- Refusal 9 is for numbers that stand for no payload. Whatever is held, what it is and the phase must be one of three,
-- the lengths within the limits, and the data bytes. Marks behind the bitmap's length say nothing to a merge, and are
-- let be.
unfoldable pub bytes_fit : List ℕ → ℕ → ℕ → Bool
bytes_fit xs at k = list_all (λ i. leb (cell xs at (k + i)) 255) (range_with_len 0 data_bytes)

unfoldable pub payload_fits : List ℕ → ℕ → ℕ → Bool
payload_fits xs at k =
    leb (cell xs at k) 2
    && (leb (cell xs at (k + 2)) 2 && (limits (cell xs at (k + 4)) (cell xs at (k + 3)) && bytes_fit xs at (k + 6)))

-- those of each of the first n positions are payloads; the places behind them are nobody's and may hold any numbers
unfoldable pub held_fits : List ℕ → ℕ → ℕ → Bool
held_fits xs at n = list_all (λ i. payload_fits xs at (i * 38)) (range_with_len 0 (at_most64 n))

-- a payload for each position, one behind the other
unfoldable pub held_at : List ℕ → ℕ → List Payload
held_at xs at = tabulate positions (λ i. payload_at xs at (i * 38))

-- the numbers in front of the bytes
abbrev pub payload_numbers : Payload → List ℕ
payload_numbers l =
    held_number l.held ∷ l.packet.term ∷ phase_number l.packet.phase ∷ l.packet.proposal_data.len ∷
    l.packet.flags_bitmap.len ∷ l.packet.flags_bitmap.marks ∷ []

unfoldable pub put_payload : ℕ → ℕ → Payload → List ℕ → List ℕ
put_payload at k l xs = sets (sets xs (at + k) (payload_numbers l)) (at + (k + 6)) l.packet.proposal_data.bytes

abbrev pub put_place : ℕ → List Payload → ℕ → List ℕ → List ℕ
put_place at held i xs = put_payload at (i * 38) (get_or held i no_payload) xs

unfoldable pub put_held : ℕ → List Payload → List ℕ → List ℕ
put_held at held xs = upto positions (put_place at held) xs
