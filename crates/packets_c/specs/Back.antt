-- RULES 17 and RULES 5.4. Through the entries for C what is written is read back, and what is read is written again.
-- The reader takes exactly what the writer can write; here the same is said of numbers and bytes.
-- Assumes nothing: these are statements, proved in proofs/Back.antt.
use Rattle.std.specs.Prelude.{◌≡◌, Result, Ok, List, ℕ, ◌+◌, ◌-◌, ◌^◌, ◌≤◌, ◌<◌, length, take, drop, get_or, replicate}
use Rattle.limits.specs.Limits.{data_bytes}
use Rattle.texts.specs.Put.{written}
use Rattle.texts.specs.ListLaws.{Every}
use Rattle.limits.specs.declared.refusals.Refusal.{Refusal}
use Rattle.packets.specs.declared.CeTwoPcPacket.{CeTwoPcPacket}
use Rattle.packets.specs.declared.TwoPcPacket.{TwoPcPacket}
use Rattle.packets_c.specs.Console.{
  ce_numbers,
  pipeline_numbers,
  ce_told,
  pipeline_told,
  ce_wrote,
  ce_left,
  pipeline_wrote,
  pipeline_left,
}

-- The two entries of a family: a packet with the numbers and the bytes that are handed out of it; what reading tells;
-- what writing answers, and the buffer that it leaves; how many numbers a packet is, and which of them is the length of
-- the data.
pub record Entries : Type 1 where
  pub Packet : Type 0
  pub numbers : Packet → List ℕ
  pub bytes : Packet → List ℕ
  pub told : List ℕ → ℕ → ℕ → ℕ → Result Packet Refusal
  pub wrote : List ℕ → List ℕ → List ℕ → ℕ → Result ℕ Refusal
  pub left : List ℕ → List ℕ → List ℕ → ℕ → List ℕ
  pub count : ℕ
  pub length_at : ℕ

abbrev pub ce_entries : Entries
ce_entries =
    record {
      Packet = CeTwoPcPacket;
      numbers = ce_numbers;
      bytes = λ p. p.proposal_data.bytes;
      told = ce_told;
      wrote = λ m bytes d at. ce_wrote m bytes d at;
      left = λ m bytes d at. ce_left m bytes d at;
      count = 5;
      length_at = 2;
    }

abbrev pub pipeline_entries : Entries
pipeline_entries =
    record {
      Packet = TwoPcPacket;
      numbers = pipeline_numbers;
      bytes = λ p. p.transaction_data.bytes;
      told = pipeline_told;
      wrote = λ m bytes d at. pipeline_wrote m bytes d at;
      left = λ m bytes d at. pipeline_left m bytes d at;
      count = 12;
      length_at = 6;
    }

-- what is told is a packet of which these numbers and these bytes are handed out
pub record Hands (e : Entries) (r : Result e.Packet Refusal) (m bytes : List ℕ) : Type 0 where
  pub packet : e.Packet
  pub taken : r ≡ Ok packet
  pub same : e.numbers packet ≡ m
  pub kept : e.bytes packet ≡ bytes

-- Words and bytes that a write takes are those that a read hands out again, from the text that was written and into
-- slices of n numbers and k bytes, which are enough: the numbers, and the data with zeros behind it.
abbrev pub ReadBack : Entries → Type 0
ReadBack e =
    (m bytes d : List ℕ) (at n k next : ℕ) → Every (λ x. x < 2 ^ 64) m → Every (λ x. x < 256) bytes
    → e.count ≤ n → data_bytes ≤ k → e.wrote m bytes d at ≡ Ok next
    → Hands e (e.told (drop at (e.left m bytes d at)) (next - at) n k)
    (take e.count m) (written (replicate 32 0) 0 (take (get_or m e.length_at 0) bytes))

-- What a read hands out is taken by a write where there is room, and the text written is the one that was read.
abbrev pub WrittenAgain : Entries → Type 0
WrittenAgain e =
    (text : List ℕ) (len n k : ℕ) (d : List ℕ) (at : ℕ) (p : e.Packet)
    → e.told text len n k ≡ Ok p → at + len ≤ length d
    → (e.wrote (e.numbers p) (e.bytes p) d at ≡ Ok (at + len))
    × (e.left (e.numbers p) (e.bytes p) d at ≡ written d at (take len text))
