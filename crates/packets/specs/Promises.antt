-- RULES 5.3, 5.4 and 5.5. What the packets layer promises of each family, in one record for both. The proofs are
-- `proofs/Promises.antt`. Assumes nothing: these are statements.
use Rattle.std.specs.Prelude.{◌≡◌, Result, Ok, Err, Bool, true, List, ℕ, ◌≤◌, length}
use Rattle.limits.specs.declared.refusals.Refusal.{Refusal}
use Rattle.limits.specs.declared.refusals.Refusal.TheVariants.{BadPacket}
use Rattle.texts.specs.Rfc8259.{Tree, Json}
use Rattle.packets.specs.Packets.{ce_text, pipeline_text, ce_within, pipeline_within, ValidCe, ValidPipeline}
use Rattle.packets.specs.Reading.{ce_read_of, pipeline_read_of}
use Rattle.packets.specs.Values.{ce_value, pipeline_value}
use Rattle.packets.specs.declared.CeTwoPcPacket.{CeTwoPcPacket}
use Rattle.packets.specs.declared.TwoPcPacket.{TwoPcPacket}

-- A family has packets P, their texts, the packets that a text stands for, the limits, what a text says, and a reader,
-- which answers any text with a packet or a refusal.
pub record Promises
    (P : Type 0)
    (text : P → List ℕ)
    (Valid : P → Type 0)
    (within : P → Bool)
    (value : P → Tree)
    (read : List ℕ → Result P Refusal)
    (longest : ℕ) : Type 0 where
  -- RFC 8259: a packet's text is a JSON text that says the packet's members and nothing else
  pub json : (p : P) → Json (text p) (value p)
  -- a packet that is given is valid, and the text read is its text
  pub given : (s : List ℕ) (p : P) → read s ≡ Ok p → (s ≡ text p) × Valid p
  -- so the text says what the packet has
  pub said : (s : List ℕ) (p : P) → read s ≡ Ok p → Json s (value p)
  -- and says nothing else: whatever value the grammar gives to a text that is read is that packet's
  pub only : (s : List ℕ) (p : P) (w : Tree) → read s ≡ Ok p → Json s w → w ≡ value p
  -- a packet that was written is read back
  pub back : (p : P) → Valid p → read (text p) ≡ Ok p
  -- any other text is refused as 9
  pub other : (s : List ℕ) → ((p : P) → Valid p → s ≡ text p → ⊥) → read s ≡ Err BadPacket
  -- no text stands for two packets; equal packets have equal texts as `text` is a function
  pub one : (p q : P) → Valid p → Valid q → text p ≡ text q → p ≡ q
  -- it is within the limits, so a writer writes it where it fits
  pub fits : (p : P) → Valid p → within p ≡ true
  -- the longest text
  pub short : (p : P) → Valid p → length (text p) ≤ longest

abbrev pub CePromises : Type 0
CePromises = Promises CeTwoPcPacket ce_text ValidCe (λ p. ce_within p) ce_value ce_read_of 596

abbrev pub PipelinePromises : Type 0
PipelinePromises = Promises TwoPcPacket pipeline_text ValidPipeline (λ p. pipeline_within p) pipeline_value pipeline_read_of 758
